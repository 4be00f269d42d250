use Rattle.std.proofs.Common.{◌≡◌, Some, ap, subst}
use Rattle.listed.specs.Lists.{In, has}
use Rattle.listed.proofs.Lists.{In_has}
use Rattle.suite_compare.specs.Answering.{Serves, unknown_goal}
use Rattle.coinst_run.specs.{Course.{answers}, Ending.{stop_ending}, Index.{index_of}, Query.{by_unknown, goals_answer, unknown_answer}}
use Rattle.coinst_run.proofs.Follows.{settles_at}
use Rattle.suite_compare.proofs.Unknown.{unknown_counted}
use Rattle.coinst_run.proofs.query.goals_report.Goals as goal

-- what is installed are packages
pub yes_text-requires : goal.yes_text-requires
yes_text-requires c = λ n i.
    let yes : Serves c.args.view.now.suite.home c.args.view.now.suite.packages c.args.goals.now (has c.in-Ok-Yes.install) = rw c.in-Ok-Yes.field-0-is at c.in-Ok-Yes.ensures.certified in
    let l = yes.healthy.numbers n (In_has (subst (λ xs. In n xs) c.as_slice-in-Ok-Yes.ensures i)) in
    rw c.as_slice.ensures l

-- the number of the first unknown goal is that of a goal
pub unknown_goal-requires : goal.unknown_goal-requires
unknown_goal-requires c = unknown_counted c.args.view.now.suite.packages c.args.goals.now c.in-Err-Unknown.goal (rw c.in-Err-Unknown.field-0-is at c.in-Err-Unknown.ensures.unknown)

pub returns-in-Err-Unknown : goal.returns-in-Err-Unknown
returns-in-Err-Unknown c =
    let v = c.args.view.now in
    let told : unknown_goal v.suite.packages c.args.goals.now ≡ Some c.in-Err-Unknown.goal = rw c.in-Err-Unknown.field-0-is at c.in-Err-Unknown.ensures.unknown in
    settles_at (answers (goals_answer c.args.goals.now c.args.budget v.limit v.kernel.hold (index_of v.suite))) (unknown_answer c.args.goals.now c.in-Err-Unknown.goal) (stop_ending c.unknown_goal.result)
    (ap (λ there. answers (by_unknown v.limit v.kernel.hold (index_of v.suite) c.args.goals.now c.args.budget there)) told) c.unknown_goal.ensures
