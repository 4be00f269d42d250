use Rattle.std.proofs.Common.{◌∙◌, [], ap}
use Rattle.coinst_run.proofs.StoredKernels.{class_passed, class_told, no_class_lines}
use Rattle.coinst_run.proofs.stored_query.push_classes.Goals as goal
use Rattle.coinst_run.proofs.stored_query.push_classes.Goals.{then-chosen-number+in_ok-push_count, else-chosen-number}

pub loop-number-init : goal.loop-number-init
loop-number-init c = no_class_lines c.args.chosen.now c.args.out.now.items

pub loop-number-preserved : goal.loop-number-preserved
loop-number-preserved c =
    elim c.if-chosen-number.branch [
      | then-chosen-number+in_ok-push_count w ↦
          class_told c.args.chosen.now c.loop-number.number c.args.out.now.items c.loop-number.out.items c.if-chosen-number.out.items c.loop-number.invariant w.if-chosen-number.true
          (ap (λ v. v.items) w.out-is ∙ w.in_ok-push_count.ensures)
      | else-chosen-number w ↦
          ap (λ v. v.items) w.out-is ∙ class_passed c.args.chosen.now c.loop-number.number c.args.out.now.items c.loop-number.out.items [] c.loop-number.invariant w.if-chosen-number.false
    ]
