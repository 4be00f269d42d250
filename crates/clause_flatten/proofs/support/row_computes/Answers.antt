use Rattle.clause_flatten.proofs.Tables.{row_computes_lem}
use Rattle.clause_flatten.proofs.support.row_computes.Goals as goal

pub returns : goal.returns
returns c = row_computes_lem
