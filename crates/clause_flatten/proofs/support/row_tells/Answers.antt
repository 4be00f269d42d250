use Rattle.clause_flatten.proofs.Substituted.{row_tells_lem}
use Rattle.clause_flatten.proofs.support.row_tells.Goals as goal

pub returns : goal.returns
returns c = row_tells_lem
