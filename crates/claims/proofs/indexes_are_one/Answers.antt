use Rattle.claims.proofs.Index.{indexes_are_one}
use Rattle.claims.proofs.indexes_are_one.Goals as goal

pub returns : goal.returns
returns c = indexes_are_one
