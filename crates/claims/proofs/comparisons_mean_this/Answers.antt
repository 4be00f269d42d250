use Rattle.claims.proofs.CompareSentence.{comparisons_mean_this}
use Rattle.claims.proofs.comparisons_mean_this.Goals as goal

pub returns : goal.returns
returns c = comparisons_mean_this
