use Rattle.suite_compare.proofs.Deciding.{kernel_decides}
use Rattle.suite_compare.proofs.laws.kernel_decides.Goals as goal

pub returns : goal.returns
returns c = kernel_decides
