use Rattle.clause_flatten.proofs.Stages.{flat_by_stages_lem}
use Rattle.clause_flatten.proofs.elimination.flat_by_stages.Goals as goal

pub returns : goal.returns
returns c = flat_by_stages_lem
