use Rattle.claims.proofs.Kernel.{kernels_are_one}
use Rattle.claims.proofs.kernels_are_one.Goals as goal

pub returns : goal.returns
returns c = kernels_are_one
