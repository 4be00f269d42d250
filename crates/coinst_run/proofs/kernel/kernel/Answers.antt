use Rattle.coinst_run.specs.{Ending.{ending_of}, Kernel.{kernel_answer}}
use Rattle.coinst_run.proofs.Follows.{settled_follows}
use Rattle.coinst_run.proofs.kernel.kernel.Goals as goal

pub returns : goal.returns
returns g c =
    c.in_ok-view.ensures.view (kernel_answer c.args.json) (ending_of c.kernel_report-report.result) c.view_at.new.shelf
    (settled_follows _ (ending_of c.kernel_report-report.result) c.view_at.new.shelf (rw (c.in_ok-view.ensures.limit, c.in_ok-view.ensures.hold) at c.kernel_report-report.ensures))
