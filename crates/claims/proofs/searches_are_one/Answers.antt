use Rattle.claims.proofs.Search.{searches_are_one}
use Rattle.claims.proofs.searches_are_one.Goals as goal

pub returns : goal.returns
returns c = searches_are_one
