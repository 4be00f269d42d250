use Rattle.install_lift.proofs.Computed.{trim_is_of}
use Rattle.install_lift.proofs.laws.trim_is_of.Goals as goal

pub returns : goal.returns
returns c = trim_is_of
