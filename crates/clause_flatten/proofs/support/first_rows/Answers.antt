use Rattle.clause_flatten.proofs.Kept.{first_rows_lem}
use Rattle.clause_flatten.proofs.support.first_rows.Goals as goal

pub returns : goal.returns
returns c = first_rows_lem
