use Rattle.claims.proofs.Index.{indexes_are_read}
use Rattle.claims.proofs.indexes_are_read.Goals as goal

pub returns : goal.returns
returns c = indexes_are_read
