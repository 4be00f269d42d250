use Rattle.clause_flatten.proofs.Kept.{keeps_every_set_lem}
use Rattle.clause_flatten.proofs.support.keeps_every_set.Goals as goal

pub returns : goal.returns
returns c = keeps_every_set_lem
