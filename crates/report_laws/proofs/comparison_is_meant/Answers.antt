use Rattle.coinst_run.proofs.CompareMeant.{compare_is_meant}
use Rattle.report_laws.proofs.comparison_is_meant.Goals as goal

pub returns : goal.returns
returns c = compare_is_meant
