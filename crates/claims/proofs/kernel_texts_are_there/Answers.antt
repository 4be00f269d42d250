use Rattle.claims.proofs.PrintedKernels.{kernel_texts_are_there}
use Rattle.claims.proofs.kernel_texts_are_there.Goals as goal

pub returns : goal.returns
returns c = kernel_texts_are_there
