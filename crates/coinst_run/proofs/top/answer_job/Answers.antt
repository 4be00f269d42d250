use Rattle.coinst_run.specs.{Ending.{ending_of}, Sample.{sample_course}}
use Rattle.coinst_run.proofs.Follows.{settled_follows}
use Rattle.coinst_run.proofs.top.answer_job.Goals as goal

pub returns-in-Sample : goal.returns-in-Sample
returns-in-Sample g c =
    rw c.in-Sample.is (settled_follows (sample_course c.in-Sample.seed c.in-Sample.count) (ending_of c.sample.result) c.args.shelf.now c.sample.ensures)
