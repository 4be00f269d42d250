use Rattle.claims.proofs.Reports.{true_reports}
use Rattle.claims.proofs.true_reports.Goals as goal

pub returns : goal.returns
returns c = true_reports
