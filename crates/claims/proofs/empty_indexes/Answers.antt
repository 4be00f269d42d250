use Rattle.claims.proofs.Empty.{empty_indexes}
use Rattle.claims.proofs.empty_indexes.Goals as goal

pub returns : goal.returns
returns c = empty_indexes
