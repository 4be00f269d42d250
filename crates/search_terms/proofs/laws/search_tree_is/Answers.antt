use Rattle.search_terms.proofs.Computed.{search_tree_is}
use Rattle.search_terms.proofs.laws.search_tree_is.Goals as goal

pub returns : goal.returns
returns c = search_tree_is
