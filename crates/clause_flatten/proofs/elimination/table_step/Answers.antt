use Rattle.clause_flatten.proofs.Tables.{table_step_lem}
use Rattle.clause_flatten.proofs.elimination.table_step.Goals as goal

pub returns : goal.returns
returns c = table_step_lem
