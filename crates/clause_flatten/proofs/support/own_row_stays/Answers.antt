use Rattle.clause_flatten.proofs.Kept.{own_row_stays_lem}
use Rattle.clause_flatten.proofs.support.own_row_stays.Goals as goal

pub returns : goal.returns
returns c = own_row_stays_lem
