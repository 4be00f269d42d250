use Rattle.coinst_run.proofs.ExplainMeant.{explain_is_meant}
use Rattle.report_laws.proofs.explanation_is_meant.Goals as goal

pub returns : goal.returns
returns c = explain_is_meant
