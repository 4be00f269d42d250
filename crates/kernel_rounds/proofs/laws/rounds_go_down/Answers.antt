use Rattle.kernel_rounds.proofs.Descent.{rounds_go_down_lem}
use Rattle.kernel_rounds.proofs.laws.rounds_go_down.Goals as goal

pub returns : goal.returns
returns c = rounds_go_down_lem
