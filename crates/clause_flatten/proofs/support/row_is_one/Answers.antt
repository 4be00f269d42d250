use Rattle.clause_flatten.proofs.Tables.{row_is_one_lem}
use Rattle.clause_flatten.proofs.support.row_is_one.Goals as goal

pub returns : goal.returns
returns c = row_is_one_lem
