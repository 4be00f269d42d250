use Rattle.kernel_rounds.proofs.Limits.{limit_without_hold_lem}
use Rattle.kernel_rounds.proofs.laws.limit_without_hold.Goals as goal

pub returns : goal.returns
returns c = limit_without_hold_lem
