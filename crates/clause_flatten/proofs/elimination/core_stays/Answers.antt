use Rattle.clause_flatten.proofs.Stages.{core_stays_lem}
use Rattle.clause_flatten.proofs.elimination.core_stays.Goals as goal

pub returns : goal.returns
returns c = core_stays_lem
