use Rattle.clause_flatten.proofs.LocalRuns.{limit_is_local_lem}
use Rattle.clause_flatten.proofs.locality.limit_is_local.Goals as goal

pub returns : goal.returns
returns c = limit_is_local_lem
