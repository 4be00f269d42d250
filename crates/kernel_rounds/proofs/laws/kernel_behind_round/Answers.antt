use Rattle.kernel_rounds.proofs.Behind.{kernel_behind_round_lem}
use Rattle.kernel_rounds.proofs.laws.kernel_behind_round.Goals as goal

pub returns : goal.returns
returns c = kernel_behind_round_lem
