use Rattle.std.proofs.Common.{◌≡◌, ◌++◌, take}
use Rattle.std.specs.List.{flat_map}
use Rattle.coinst_run.specs.ExplainText.{goal_line}
use Rattle.coinst_run.proofs.explain_text.push_goals.Given as goal

abbrev pub invariant-loop-mark : goal.invariant-loop-mark
invariant-loop-mark l = l.out.items ≡ l.fn.out.items ++ flat_map (goal_line l.goals) (take l.mark-index l.marks)
