use Rattle.claims.proofs.KernelsAreOne.{kernel_texts_are_one}
use Rattle.claims.proofs.kernel_texts_are_one.Goals as goal

pub returns : goal.returns
returns c = kernel_texts_are_one
