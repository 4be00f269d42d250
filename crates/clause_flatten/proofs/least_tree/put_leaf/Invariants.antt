use Rattle.clause_flatten.proofs.Leaves.{IsMended}
use Rattle.clause_flatten.proofs.least_tree.put_leaf.Given as goal

abbrev pub invariant-up : goal.invariant-up
invariant-up l = IsMended l.fn.nodes l.leaves l.leaf l.number l.nodes l.place

abbrev pub decreases-up : goal.decreases-up
decreases-up l = l.place
