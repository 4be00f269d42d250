use Rattle.clause_flatten.proofs.Flat.{next_is_least_lem}
use Rattle.clause_flatten.proofs.elimination.next_is_least.Goals as goal

pub returns : goal.returns
returns c = next_is_least_lem
