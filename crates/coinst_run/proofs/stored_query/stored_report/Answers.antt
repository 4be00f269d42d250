use Rattle.kernel_text.specs.KernelReads.{content}
use Rattle.row_book.specs.Book.{repository_of}
use Rattle.coinst_run.specs.{Course.{answers}, Ending.{ending_of}, StoredQuery.{checked_kernel, stored_answer}}
use Rattle.coinst_run.proofs.Follows.{settled_on}
use Rattle.coinst_run.proofs.stored_query.stored_report.Goals as goal

pub returns : goal.returns
returns c =
    let stored = c.in_ok-stored.stored in
    settled_on (checked_kernel c.args.path.now c.args.text.now) (content stored.format (repository_of c.checked_kernel.new.pool stored.book) stored.members stored.held)
    (λ kernel. answers (stored_answer c.args.goals.now c.args.budget kernel)) (ending_of c.goals_report-report.result) c.in_ok-stored.ensures.kernel c.goals_report-report.ensures
