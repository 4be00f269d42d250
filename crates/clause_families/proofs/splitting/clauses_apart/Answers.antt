use Rattle.std.proofs.Common.{ap, sym, ◌∙◌, not, refl}
use Rattle.clause_families.specs.Counting.{is_apart}
use Rattle.clause_families.proofs.Families.{At, at_item, filter_push, filter_skip}
use Rattle.clause_families.proofs.splitting.clauses_apart.Goals as goal
use Rattle.clause_families.proofs.splitting.clauses_apart.Goals.{then-is_apart+in_ok-copy+in_ok-push, else-is_apart}

pub loop-clause-preserved : goal.loop-clause-preserved
loop-clause-preserved c =
    let at : At c.args.family.now c.loop-clause.clause-index c.clause-item.result =
    at_item c.args.family.now c.loop-clause.clause-index c.clause-item.result c.clause-item.result c.loop-clause-test.true c.clause-item.is refl in
    elim c.if-is_apart.branch [
      | then-is_apart+in_ok-copy+in_ok-push w ↦
          filter_push (is_apart c.args.numbers.now) c.args.family.now c.loop-clause.clause-index c.clause-item.result w.in_ok-copy.field-0 c.loop-clause.apart.items c.if-is_apart.apart.items
          at (ap (is_apart c.args.numbers.now) (sym c.as_slice.ensures) ∙ sym c.is_apart.ensures ∙ w.if-is_apart.true) c.loop-clause.invariant (w.in_ok-copy.ensures ∙ w.as_slice-then-is_apart.ensures)
          (ap (λ z. z.items) w.apart-is ∙ w.in_ok-push.ensures.items)
      | else-is_apart w ↦
          filter_skip (is_apart c.args.numbers.now) c.args.family.now c.loop-clause.clause-index c.clause-item.result c.loop-clause.apart.items c.if-is_apart.apart.items
          at (ap (is_apart c.args.numbers.now) (sym c.as_slice.ensures) ∙ sym c.is_apart.ensures ∙ w.if-is_apart.false) c.loop-clause.invariant (ap (λ z. z.items) w.apart-is)
    ]
