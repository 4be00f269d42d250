use Rattle.report_laws.proofs.CompleteJobs.{complete_jobs_report}
use Rattle.report_laws.proofs.complete_jobs_report.Goals as goal

pub returns : goal.returns
returns c = complete_jobs_report
