use Rattle.clause_solver.proofs.Local.{verdict_is_local_lem}
use Rattle.clause_solver.proofs.laws.verdict_is_local.Goals as goal

pub returns : goal.returns
returns c = verdict_is_local_lem
