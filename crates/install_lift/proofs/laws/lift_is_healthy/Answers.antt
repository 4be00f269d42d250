use Rattle.install_lift.proofs.Lifted.{lift_is_healthy}
use Rattle.install_lift.proofs.laws.lift_is_healthy.Goals as goal

pub returns : goal.returns
returns c = lift_is_healthy
