use Rattle.std.proofs.Common.{[], ◌∷◌, ◌++◌, ◌∙◌, ap, ap₂, append_assoc, append-nil, sym, take}
use Rattle.kernel_rounds.specs.Moving.{step_rows, trail_rows}
use Rattle.kernel_rounds.proofs.MovedSteps.{next_steps, rows_append}
use Rattle.kernel_rounds.proofs.moving.live_rows.Goals as goal

pub loop-step-preserved : goal.loop-step-preserved
loop-step-preserved c =
    let before = take c.loop-step.step-index c.args.steps.now in
    let step = c.step-item.result in
    c.in_ok-extend_from_slice.ensures.items
    ∙ ap₂ (λ xs ys. xs ++ ys) c.loop-step.invariant c.step_rows.ensures
    ∙ append_assoc c.args.book.now.rows (trail_rows before) (step_rows step)
    ∙ ap (λ z. c.args.book.now.rows ++ z)
    (ap (λ z. trail_rows before ++ z) (sym (append-nil (step_rows step))) ∙ sym (rows_append before (step ∷ []))
    ∙ sym (ap trail_rows (next_steps c.args.steps.now c.loop-step.step-index step c.loop-step-test.true c.step-item.is)))
