use Rattle.clause_flatten.proofs.Stages.{stages_run_lem}
use Rattle.clause_flatten.proofs.elimination.stages_run.Goals as goal

pub returns : goal.returns
returns c = stages_run_lem
