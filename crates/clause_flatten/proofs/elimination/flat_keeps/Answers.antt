use Rattle.clause_flatten.proofs.Flat.{flat_keeps_lem}
use Rattle.clause_flatten.proofs.elimination.flat_keeps.Goals as goal

pub returns : goal.returns
returns c = flat_keeps_lem
