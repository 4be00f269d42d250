use Rattle.std.proofs.Common.{◌≡◌, length, Some, ap, subst, sym, ◌∙◌}
use Rattle.suite_compare.specs.Answering.{unknown_goal}
use Rattle.coinst_run.specs.{Course.{answers}, Ending.{Settles, ending_of, stop_ending}, Explain.{explained_by_unknown, explanation_answer, goals_explained}}
use Rattle.coinst_run.specs.{Index.{index_of}, Query.{unknown_answer}}
use Rattle.explain_core.specs.OnStanzas.{IsTellable}
use Rattle.coinst_run.proofs.Follows.{settles_at}
use Rattle.explain_core.proofs.Tellable.{explanation_tellable}
use Rattle.suite_compare.proofs.Unknown.{unknown_counted}
use Rattle.coinst_run.proofs.explain.explain_goals.Goals as goal

-- what is told are goals and packages
pub explanation_report-requires : goal.explanation_report-requires
explanation_report-requires c =
    let v = c.args.view.now in
    subst (λ ps. IsTellable (length ps) (length c.args.goals.now) c.in-Ok.explanation) (sym c.as_slice.ensures)
    (subst (IsTellable (length v.suite.packages) (length c.args.goals.now)) (sym c.in-Ok.ensures.explanation)
    (explanation_tellable v.suite.home v.suite.packages v.limit v.kernel.hold c.args.budget c.args.goals.now))

pub returns-in-Ok : goal.returns-in-Ok
returns-in-Ok c =
    let v = c.args.view.now in
    subst (λ answer. Settles (answers answer) (ending_of c.explanation_report.result))
    (ap (λ ps. explanation_answer ps c.args.goals.now c.args.budget c.in-Ok.explanation) c.as_slice.ensures
    ∙ ap (explanation_answer v.suite.packages c.args.goals.now c.args.budget) c.in-Ok.ensures.explanation
    ∙ sym (ap (explained_by_unknown c.args.goals.now c.args.budget v.limit v.kernel.hold (index_of v.suite)) c.in-Ok.ensures.known))
    c.explanation_report.ensures

-- the number of the first unknown goal is that of a goal
pub unknown_goal-requires : goal.unknown_goal-requires
unknown_goal-requires c = unknown_counted c.args.view.now.suite.packages c.args.goals.now c.in-Err-Unknown.goal (rw c.in-Err-Unknown.field-0-is at c.in-Err-Unknown.ensures.unknown)

pub returns-in-Err-Unknown : goal.returns-in-Err-Unknown
returns-in-Err-Unknown c =
    let v = c.args.view.now in
    let told : unknown_goal v.suite.packages c.args.goals.now ≡ Some c.in-Err-Unknown.goal = rw c.in-Err-Unknown.field-0-is at c.in-Err-Unknown.ensures.unknown in
    settles_at (answers (goals_explained c.args.goals.now c.args.budget v.limit v.kernel.hold (index_of v.suite))) (unknown_answer c.args.goals.now c.in-Err-Unknown.goal) (stop_ending c.unknown_goal.result)
    (ap (λ there. answers (explained_by_unknown c.args.goals.now c.args.budget v.limit v.kernel.hold (index_of v.suite) there)) told) c.unknown_goal.ensures
