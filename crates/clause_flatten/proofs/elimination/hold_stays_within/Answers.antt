use Rattle.clause_flatten.proofs.Held.{hold_stays_within_lem}
use Rattle.clause_flatten.proofs.elimination.hold_stays_within.Goals as goal

pub returns : goal.returns
returns c = hold_stays_within_lem
