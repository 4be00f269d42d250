use Rattle.clause_flatten.proofs.Substituted.{substitutes_lem}
use Rattle.clause_flatten.proofs.support.substitutes.Goals as goal

pub returns : goal.returns
returns c = substitutes_lem
