use Rattle.install_lift.proofs.Lifted.{lift_is_one}
use Rattle.install_lift.proofs.laws.lift_is_one.Goals as goal

pub returns : goal.returns
returns c = lift_is_one
