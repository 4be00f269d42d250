use Rattle.coinst_run.specs.SystemStatus.{system_course}
use Rattle.coinst_run.proofs.system_status.system_status.Goals as goal

pub returns : goal.returns
returns g c =
    let settings = c.args.settings in
    c.in_ok-view.ensures.view (system_course c.args.file.now settings.budget settings.clause_limit settings.hold) _ _
    (rw (c.in_ok-view.ensures.limit, c.in_ok-view.ensures.hold) at c.system_at-report.ensures)
