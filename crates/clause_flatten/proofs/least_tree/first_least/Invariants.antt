use Rattle.clause_flatten.proofs.Leaves.{IsWayDown}
use Rattle.clause_flatten.proofs.least_tree.first_least.Given as goal

abbrev pub invariant-loop-level : goal.invariant-loop-level
invariant-loop-level l = IsWayDown l.nodes l._level l.place
