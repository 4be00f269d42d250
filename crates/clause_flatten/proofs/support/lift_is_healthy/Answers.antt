use Rattle.clause_flatten.proofs.Lift.{lift_is_healthy_lem}
use Rattle.clause_flatten.proofs.support.lift_is_healthy.Goals as goal

pub returns : goal.returns
returns c = lift_is_healthy_lem
