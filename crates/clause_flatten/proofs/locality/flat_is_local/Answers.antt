use Rattle.clause_flatten.proofs.LocalRuns.{flat_is_local_lem}
use Rattle.clause_flatten.proofs.locality.flat_is_local.Goals as goal

pub returns : goal.returns
returns c = flat_is_local_lem
