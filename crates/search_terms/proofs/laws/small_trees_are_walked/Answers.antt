use Rattle.search_terms.proofs.Exists.{fails_small}
use Rattle.search_terms.proofs.laws.small_trees_are_walked.Goals as goal

pub returns : goal.returns
returns c = fails_small
