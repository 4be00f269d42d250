use Rattle.report_laws.proofs.StoredAgrees.{stored_answers_as_index}
use Rattle.report_laws.proofs.stored_answers_as_index.Goals as goal

pub returns : goal.returns
returns c = stored_answers_as_index
