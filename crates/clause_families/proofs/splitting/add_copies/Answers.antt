use Rattle.std.proofs.{Common.{ap, ◌∙◌, ◌++◌, arith, length, ◌≡◌}, lemmas.List.{take_all}}
use Rattle.clause_pool.specs.Interned.{clauses_at}
use Rattle.clause_families.proofs.{Families.{At, at_clause, clauses_length, of_pool_item}, CountedRows.{take_push}}
use Rattle.clause_families.proofs.splitting.add_copies.Goals as goal

pub slice-requires : goal.slice-requires
slice-requires c = of_pool_item c.args.pool.now c.args.ids.now c.loop-id.id-index c.id-item.result c.requires c.loop-id-test.true c.id-item.is

pub loop-id-preserved : goal.loop-id-preserved
loop-id-preserved c =
    let at : At (clauses_at c.args.pool.now c.args.ids.now) c.loop-id.id-index c.slice.result.now =
    at_clause c.args.pool.now c.args.ids.now c.loop-id.id-index c.id-item.result c.slice.result.now c.loop-id-test.true c.id-item.is c.slice.ensures.lent in
    take_push (clauses_at c.args.pool.now c.args.ids.now) c.loop-id.id-index c.slice.result.now c.in_ok-copy.field-0
    c.args.family.now.items c.loop-id.family.items c.push.new.self.items at c.loop-id.invariant c.in_ok-copy.ensures c.in_ok-push.ensures.items

pub returns : goal.returns
returns c =
    c.loop-id.invariant ∙ ap (λ z. c.args.family.now.items ++ z) (take_all c.loop-id.id-index (clauses_at c.args.pool.now c.args.ids.now)
    (let n : length (clauses_at c.args.pool.now c.args.ids.now) ≡ length c.args.ids.now = clauses_length c.args.pool.now c.args.ids.now in omega (arith, c.loop-id-test.false)))
