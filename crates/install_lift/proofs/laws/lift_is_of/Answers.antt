use Rattle.install_lift.proofs.Computed.{lift_is_of}
use Rattle.install_lift.proofs.laws.lift_is_of.Goals as goal

pub returns : goal.returns
returns c = lift_is_of
