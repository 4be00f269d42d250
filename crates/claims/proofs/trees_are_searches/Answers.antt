use Rattle.claims.proofs.Search.{trees_are_searches}
use Rattle.claims.proofs.trees_are_searches.Goals as goal

pub returns : goal.returns
returns c = trees_are_searches
