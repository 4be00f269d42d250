use Rattle.claims.proofs.Wrong.{wrong_reports}
use Rattle.claims.proofs.wrong_reports.Goals as goal

pub returns : goal.returns
returns c = wrong_reports
