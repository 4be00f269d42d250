use Rattle.status_check.specs.Own.{own_home, own_packages, status_fault}
use Rattle.coinst_run.specs.{Course.{answers}, Ending.{stop_ending}, Index.{index_of}, SystemStatus.{checked_system, system_report, told_answer}}
use Rattle.coinst_run.proofs.{Follows.{stopped}, SystemReports.{own_of_lines, system_refused, system_told}}
use Rattle.coinst_run.proofs.system_status.system_report.Goals as goal

-- the packages that the state names have lines
pub system_text-requires : goal.system_text-requires
system_text-requires c =
    let home = c.args.view.now.suite.home in
    own_of_lines (own_home home c.args.text.now) c.args.view.now.suite.packages (own_packages home c.args.text.now) c.in-Ok.report.lines c.in-Ok.report.own c.in-Ok.ensures.lines c.in-Ok.ensures.own

pub returns-in_ok-system_text-in-Ok : goal.returns-in_ok-system_text-in-Ok
returns-in_ok-system_text-in-Ok c =
    rw c.of.ensures (system_told c.args.path.now c.args.budget c.args.view.now.limit c.args.view.now.kernel.hold (index_of c.args.view.now.suite) c.args.text.now c.in-Ok.report _ _
    c.in-Ok.ensures.accepted c.in-Ok.ensures.lines c.in-Ok.ensures.foreign c.in-Ok.ensures.own c.in-Ok.ensures.verdict c.system_verdict.ensures c.in_ok-system_text-in-Ok.ensures)

pub returns-in-Err : goal.returns-in-Err
returns-in-Err c =
    let home = c.args.view.now.suite.home in
    let told = system_report c.args.budget c.args.view.now.limit c.args.view.now.kernel.hold (index_of c.args.view.now.suite) in
    stopped (checked_system c.args.path.now home c.args.text.now) (λ system. answers (told_answer c.args.budget (told system))) (stop_ending c.faulty.result)
    (system_refused c.args.path.now home c.args.text.now (status_fault home c.args.text.now) (stop_ending c.faulty.result) (c.faulty.ensures c.args.text.now (status_fault home c.args.text.now) c.in-Err.ensures.refused))
