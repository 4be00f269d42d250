use Rattle.std.proofs.Common.{◌++◌, get_or, false, ap, ◌∙◌}
use Rattle.explain_core.specs.declared.explanation.Mark.{Mark}
use Rattle.kernel_text.proofs.Written.{more_text}
use Rattle.listed.proofs.Lists.{In_at}
use Rattle.coinst_run.specs.ExplainText.{goal_line, goal_text}
use Rattle.coinst_run.proofs.explain_text.push_goals.Goals as goal

-- each mark is of a goal
pub goal_of_number-requires-clause-counted : goal.goal_of_number-requires-clause-counted
goal_of_number-requires-clause-counted c =
    let d : Mark = record { goal = 0; unsettled = false } in
    (c.requires (get_or c.args.marks.now c.loop-mark.mark-index d) (In_at c.args.marks.now c.loop-mark.mark-index d c.loop-mark-test.true)).0

pub goal_of_number-requires-clause-within : goal.goal_of_number-requires-clause-within
goal_of_number-requires-clause-within c =
    let d : Mark = record { goal = 0; unsettled = false } in
    (c.requires (get_or c.args.marks.now c.loop-mark.mark-index d) (In_at c.args.marks.now c.loop-mark.mark-index d c.loop-mark-test.true)).1

-- one more line, of the goal that is marked
pub loop-mark-preserved : goal.loop-mark-preserved
loop-mark-preserved c =
    let d : Mark = record { goal = 0; unsettled = false } in
    more_text (goal_line c.args.goals.now) c.args.marks.now c.loop-mark.mark-index d c.args.out.now.items c.loop-mark.out.items c.push_goal.new.out.items c.loop-mark-test.true c.loop-mark.invariant
    (c.in_ok-push_goal.ensures ∙ ap (λ g. c.loop-mark.out.items ++ goal_text (get_or c.args.marks.now c.loop-mark.mark-index d).unsettled g) c.goal_of_number.ensures)
