use Rattle.coinst_run.specs.{Compare.{compare_answer}, Ending.{ending_of}, Index.{index_of}}
use Rattle.coinst_run.proofs.Follows.{settled_follows}
use Rattle.coinst_run.proofs.compare.against_newer.Goals as goal

pub returns : goal.returns
returns g c =
    c.in_ok-after.ensures.view (compare_answer c.args.budget c.args.old.now.limit c.args.old.now.kernel.hold (index_of c.args.old.now.suite)) _ _
    (settled_follows _ (ending_of c.comparison-report.result) _ c.comparison-report.ensures)
