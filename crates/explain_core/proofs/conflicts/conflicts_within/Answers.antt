use Rattle.std.proofs.Common.{◌∙◌, sym, ap}
use Rattle.row_book.specs.{Book.{repository_of}, Flags.{flag}}
use Rattle.explain_core.proofs.Withins.{within_left, within_more}
use Rattle.explain_core.proofs.conflicts.conflicts_within.Goals as goal
use Rattle.explain_core.proofs.conflicts.conflicts_within.Goals.{then-is_up+in_ok-add_above, else-is_up}

pub loop-low-preserved : goal.loop-low-preserved
loop-low-preserved c =
    let R = repository_of c.args.pool.now c.args.book.now in
    elim c.if-is_up.branch [
      | then-is_up+in_ok-add_above w ↦
          within_more R (flag c.args.flags.now) c.loop-low.low c.loop-low.pairs.items c.if-is_up.pairs.items w.against.result.now (sym c.is_up.ensures ∙ w.if-is_up.true) c.loop-low.invariant
          w.against.ensures (ap (λ v. v.items) w.pairs-is ∙ w.in_ok-add_above.ensures)
      | else-is_up w ↦ ap (λ v. v.items) w.pairs-is ∙ within_left R (flag c.args.flags.now) c.loop-low.low c.loop-low.pairs.items (sym c.is_up.ensures ∙ w.if-is_up.false) c.loop-low.invariant
    ]
