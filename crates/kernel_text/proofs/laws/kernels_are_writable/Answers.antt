use Rattle.kernel_text.proofs.Classified.{kernels_are_writable}
use Rattle.kernel_text.proofs.laws.kernels_are_writable.Goals as goal

pub returns : goal.returns
returns c = kernels_are_writable
