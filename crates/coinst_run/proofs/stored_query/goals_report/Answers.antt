use Rattle.std.proofs.{Common.{◌≡◌, length, Some, ap, sym, subst}, lemmas.List.{length-map}}
use Rattle.clause_pool.specs.Interned.{row_at}
use Rattle.kernel_text.specs.{Images.{unknown_goal}, KernelReads.{content}}
use Rattle.row_book.specs.{Book.{repository_of}, Needs.{NeedsFit}}
use Rattle.coinst_run.specs.{Course.{answers}, Query.{unknown_answer}, StoredQuery.{stored_answer, stored_by_unknown}, Ending.{Settles, ending_of, stop_ending}}
use Rattle.coinst_run.proofs.{Follows.{settles_at}, StoredKernels.{known_told}}
use Rattle.kernel_text.proofs.Serving.{images_fit, unknown_counted}
use Rattle.coinst_run.proofs.stored_query.goals_report.Goals as goal

-- the classes that goals name are classes
pub tree_report-requires-clause-fit : goal.tree_report-requires-clause-fit
tree_report-requires-clause-fit c =
    subst (NeedsFit (length c.args.stored.now.book.rows)) (sym c.in-Ok.ensures.images) (images_fit c.args.stored.now.members (length c.args.stored.now.book.rows) c.args.goals.now)

pub returns-in-Ok : goal.returns-in-Ok
returns-in-Ok c =
    let R = repository_of c.args.pool.now c.args.stored.now.book in
    subst (λ course. Settles course (ending_of c.tree_report.result))
    (known_told c.args.stored.now.format R c.args.stored.now.members c.args.stored.now.held c.args.goals.now c.args.budget (length c.args.stored.now.book.rows) c.in-Ok.needs c.in-Ok.ensures.known
    (sym (length-map c.args.stored.now.book.rows (row_at c.args.pool.now))) c.in-Ok.ensures.images) c.tree_report.ensures

-- the number of the first unknown goal is that of a goal
pub unknown_goal-requires : goal.unknown_goal-requires
unknown_goal-requires c = unknown_counted c.args.stored.now.members c.args.goals.now c.in-Err-Unknown.goal (rw c.in-Err-Unknown.field-0-is at c.in-Err-Unknown.ensures.unknown)

pub returns-in-Err-Unknown : goal.returns-in-Err-Unknown
returns-in-Err-Unknown c =
    let k = content c.args.stored.now.format (repository_of c.args.pool.now c.args.stored.now.book) c.args.stored.now.members c.args.stored.now.held in
    let told : unknown_goal k.members c.args.goals.now ≡ Some c.in-Err-Unknown.goal = rw c.in-Err-Unknown.field-0-is at c.in-Err-Unknown.ensures.unknown in
    settles_at (answers (stored_answer c.args.goals.now c.args.budget k)) (unknown_answer c.args.goals.now c.in-Err-Unknown.goal) (stop_ending c.unknown_goal.result)
    (ap (λ there. answers (stored_by_unknown k c.args.goals.now c.args.budget there)) told) c.unknown_goal.ensures
