use Rattle.claims.proofs.KernelSentence.{kernels_mean_this}
use Rattle.claims.proofs.kernels_mean_this.Goals as goal

pub returns : goal.returns
returns c = kernels_mean_this
