use Rattle.std.proofs.Common.{map}
use Rattle.std.specs.Prelude.{string_bytes}
use Rattle.coinst_run.specs.{Ending.{ending_of}, Follows.{of_a_job}}
use Rattle.coinst_words.specs.Jobs.{job_of}
use Rattle.coinst_run.proofs.Runs.{words_refused}
use Rattle.coinst_run.proofs.top.answer_to.Goals as goal

pub returns-in-Ok : goal.returns-in-Ok
returns-in-Ok g c = rw c.in-Ok.ensures.job (of_a_job c.in-Ok.job c.args.shelf.now c.answer_job.new.shelf (ending_of c.answer_job.result) c.answer_job.ensures)

pub returns-in-Err : goal.returns-in-Err
returns-in-Err g c =
    rw c.from.ensures (words_refused (job_of (map string_bytes c.args.words.now)) c.in-Err.error c.in-Err.ensures.refusal c.args.shelf.now)
