use Rattle.std.proofs.Common.{◌∙◌}
use Rattle.clause_flatten.proofs.UserRows.{found_passes}
use Rattle.clause_flatten.proofs.holding.would_pass.Goals as goal

pub first_over-requires-clause-users : goal.first_over-requires-clause-users
first_over-requires-clause-users c = c.as_slice.ensures.value ∙ c.in_ok-users.ensures c.requires.ready.table

pub returns : goal.returns
returns c =
    c.is_some.ensures
    ∙ found_passes c.args.pool.now c.args.rows.now c.args.gone c.requires.gone c.as_slice.result.now
    (c.as_slice.ensures.value ∙ c.in_ok-users.ensures c.requires.ready.table) (λ o. o.package) _
    c.requires.ready.fit c.requires.ready.tidy c.args.limit c.requires.within c.in_ok-over.ensures.first
