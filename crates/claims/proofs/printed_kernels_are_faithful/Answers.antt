use Rattle.claims.proofs.PrintedKernels.{printed_kernels_are_faithful}
use Rattle.claims.proofs.printed_kernels_are_faithful.Goals as goal

pub returns : goal.returns
returns c = printed_kernels_are_faithful
