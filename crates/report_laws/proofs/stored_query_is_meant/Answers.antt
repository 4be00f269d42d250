use Rattle.coinst_run.proofs.StoredMeant.{stored_query_is_meant}
use Rattle.report_laws.proofs.stored_query_is_meant.Goals as goal

pub returns : goal.returns
returns c = stored_query_is_meant
