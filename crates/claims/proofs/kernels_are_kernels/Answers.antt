use Rattle.claims.proofs.Kernel.{kernels_are_kernels}
use Rattle.claims.proofs.kernels_are_kernels.Goals as goal

pub returns : goal.returns
returns c = kernels_are_kernels
