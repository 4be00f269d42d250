use Rattle.std.proofs.{Common.{subst, take, ◌+◌}, lemmas.List.{take_all}}
use Rattle.listed.proofs.Lists.{item_in}
use Rattle.kernel_rounds.specs.Moving.{AreSameSteps}
use Rattle.kernel_rounds.proofs.MovedSteps.{item_rows, next_steps, steps_more}
use Rattle.kernel_rounds.proofs.moving.rename_steps.Goals as goal

pub rename_step-requires : goal.rename_step-requires
rename_step-requires c = λ id i.
    c.requires id
    (item_rows c.args.steps.now c.step-item.result (item_in c.args.steps.now c.loop-step.step-index c.step-item.result c.loop-step-test.true c.step-item.is) id i)

pub loop-step-preserved : goal.loop-step-preserved
loop-step-preserved c = λ old new live k.
    steps_more old new (take c.loop-step.step-index c.args.steps.now) (take (c.loop-step.step-index + 1) c.args.steps.now) c.step-item.result c.in_ok-moved.moved c.loop-step.made c.push.new.self
    (c.loop-step.invariant old new live k) (c.in_ok-moved.ensures old new live k)
    (next_steps c.args.steps.now c.loop-step.step-index c.step-item.result c.loop-step-test.true c.step-item.is) c.in_ok-push.ensures.ok

pub returns : goal.returns
returns c = λ old new live k.
    subst (λ xs. AreSameSteps old xs new c.loop-step.made) (take_all c.loop-step.step-index c.args.steps.now c.loop-step-test.false) (c.loop-step.invariant old new live k)
