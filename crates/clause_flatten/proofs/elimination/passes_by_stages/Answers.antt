use Rattle.clause_flatten.proofs.Stages.{passes_by_stages_lem}
use Rattle.clause_flatten.proofs.elimination.passes_by_stages.Goals as goal

pub returns : goal.returns
returns c = passes_by_stages_lem
