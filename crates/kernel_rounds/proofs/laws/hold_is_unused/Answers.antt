use Rattle.kernel_rounds.proofs.Unheld.{hold_is_unused_lem}
use Rattle.kernel_rounds.proofs.laws.hold_is_unused.Goals as goal

pub returns : goal.returns
returns c = hold_is_unused_lem
