use Rattle.kernel_rounds.proofs.Again.{kernel_of_kernel_lem}
use Rattle.kernel_rounds.proofs.laws.kernel_of_kernel.Goals as goal

pub returns : goal.returns
returns c = kernel_of_kernel_lem
