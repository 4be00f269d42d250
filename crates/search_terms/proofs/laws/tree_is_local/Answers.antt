use Rattle.search_terms.proofs.LocalTrees.{tree_is_local_lem}
use Rattle.search_terms.proofs.laws.tree_is_local.Goals as goal

pub returns : goal.returns
returns c = tree_is_local_lem
