use Rattle.clause_flatten.proofs.Held.{held_is_used_lem}
use Rattle.clause_flatten.proofs.elimination.held_is_used.Goals as goal

pub returns : goal.returns
returns c = held_is_used_lem
