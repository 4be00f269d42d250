use Rattle.std.proofs.Common.{◌∙◌, false}
use Rattle.std.specs.Prelude.{slice_index_or}
use Rattle.listed.proofs.Numbers.{number_kept, number_left}
use Rattle.listed.proofs.flags.true_numbers.Goals as goal
use Rattle.listed.proofs.flags.true_numbers.Goals.{then-flags-place+in_ok-push, else-flags-place}

pub loop-place-preserved : goal.loop-place-preserved
loop-place-preserved c =
    elim c.if-flags-place.branch [
      | then-flags-place+in_ok-push w ↦ number_kept (λ n. slice_index_or c.args.flags.now n false) c.loop-place.place c.loop-place.numbers c.if-flags-place.numbers w.if-flags-place.true c.loop-place.invariant
          (w.numbers-is ∙ w.in_ok-push.ensures.ok)
      | else-flags-place w ↦ w.numbers-is ∙ number_left (λ n. slice_index_or c.args.flags.now n false) c.loop-place.place c.loop-place.numbers w.if-flags-place.false c.loop-place.invariant
    ]
