use Rattle.std.proofs.Common.{◌∙◌, Some, ap, sym}
use Rattle.coinst_words.proofs.GoalWords.{next_goal, no_goals, refused_at}
use Rattle.coinst_words.proofs.goals.goals_in.Goals as goal

pub loop-word-init : goal.loop-word-init
loop-word-init c = no_goals ∙ ap Some (sym c.new-goals.ensures)

pub returns-in_err-goal_in-clause-refusal : goal.returns-in_err-goal_in-clause-refusal
returns-in_err-goal_in-clause-refusal c =
    refused_at c.args.words.now c.loop-word.word-index _ c.in_err-goal_in.field-0.0 c.from_residual.result c.loop-word-test.true c.in_err-goal_in.ensures.refusal c.from_residual.ensures.1

pub loop-word-preserved : goal.loop-word-preserved
loop-word-preserved c =
    next_goal c.args.words.now c.loop-word.word-index _ c.loop-word.goals c.in_ok-goal_in.field-0 c.loop-word-test.true c.loop-word.invariant c.in_ok-goal_in.ensures.goal ∙ ap Some (sym c.in_ok-push.ensures.ok)
