use Rattle.claims.proofs.Acceptance.{indexes_are_accepted}
use Rattle.claims.proofs.indexes_are_accepted.Goals as goal

pub returns : goal.returns
returns c = indexes_are_accepted
