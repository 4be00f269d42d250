use Rattle.coinst_run.proofs.QueryMeant.{query_is_meant}
use Rattle.report_laws.proofs.query_is_meant.Goals as goal

pub returns : goal.returns
returns c = query_is_meant
