use Rattle.std.proofs.{Common.{ap, sym, ◌∙◌, not}, lemmas.Bool.{not_from_false, not_from_true}}
use Rattle.clause_pool.specs.Interned.{clauses_at}
use Rattle.listed.specs.Lists.{has}
use Rattle.clause_families.proofs.Families.{At, at_clause, filter_push, filter_skip, of_pool_item}
use Rattle.clause_families.proofs.family.clauses_without.Goals as goal
use Rattle.clause_families.proofs.family.clauses_without.Goals.{then-not-holds_ascending+in_ok-copy+in_ok-push, else-not-holds_ascending}

pub slice-clause-requires : goal.slice-clause-requires
slice-clause-requires c = of_pool_item c.args.pool.now c.args.row.now c.loop-id.id-index c.id-item.result c.requires c.loop-id-test.true c.id-item.is

pub loop-id-preserved : goal.loop-id-preserved
loop-id-preserved c =
    let at : At (clauses_at c.args.pool.now c.args.row.now) c.loop-id.id-index c.slice-clause.result.now =
    at_clause c.args.pool.now c.args.row.now c.loop-id.id-index c.id-item.result c.slice-clause.result.now c.loop-id-test.true c.id-item.is c.slice-clause.ensures.lent in
    elim c.if-not-holds_ascending.branch [
      | then-not-holds_ascending+in_ok-copy+in_ok-push w ↦
          filter_push (λ d. not (has d c.args.number)) (clauses_at c.args.pool.now c.args.row.now) c.loop-id.id-index c.slice-clause.result.now w.in_ok-copy.field-0 c.loop-id.family.items c.if-not-holds_ascending.family.items
          at (not_from_false (has c.slice-clause.result.now c.args.number) (sym c.holds_ascending.ensures ∙ w.if-not-holds_ascending.true)) c.loop-id.invariant w.in_ok-copy.ensures
          (ap (λ z. z.items) w.family-is ∙ w.in_ok-push.ensures.items)
      | else-not-holds_ascending w ↦
          filter_skip (λ d. not (has d c.args.number)) (clauses_at c.args.pool.now c.args.row.now) c.loop-id.id-index c.slice-clause.result.now c.loop-id.family.items c.if-not-holds_ascending.family.items
          at (not_from_true (has c.slice-clause.result.now c.args.number) (sym c.holds_ascending.ensures ∙ w.if-not-holds_ascending.false)) c.loop-id.invariant
          (ap (λ z. z.items) w.family-is)
    ]
