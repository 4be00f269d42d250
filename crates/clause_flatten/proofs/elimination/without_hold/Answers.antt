use Rattle.clause_flatten.proofs.Stages.{without_hold_lem}
use Rattle.clause_flatten.proofs.elimination.without_hold.Goals as goal

pub returns : goal.returns
returns c = without_hold_lem
