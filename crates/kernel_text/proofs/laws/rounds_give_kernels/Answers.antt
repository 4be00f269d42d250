use Rattle.kernel_text.proofs.Extracted.{kernel_fits}
use Rattle.kernel_text.proofs.laws.rounds_give_kernels.Goals as goal

pub returns : goal.returns
returns c = kernel_fits
