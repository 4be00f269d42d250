use Rattle.std.proofs.Common.{◌≤◌, ◌+◌, length}
use Rattle.listed.specs.Lists.{Ascending}
use Rattle.clause_families.specs.{Branches.{any_of, Standing}, Inclusion.{is_within}}
use Rattle.clause_families.proofs.Walked.{Left}
use Rattle.clause_families.proofs.family_tree.+has_within.Given as goal

abbrev pub decreases-has_within : goal.decreases-has_within
decreases-has_within l = length l.nodes.now

abbrev pub invariant-loop-number : goal.invariant-loop-number
invariant-loop-number l = record {
  fewer : length l.left ≤ length l.nodes;
  ascends : Ascending l.ahead;
  still : (s : Standing l.from l.nodes) → Left l.from (any_of (is_within l.wanted l.size) s.tree) l.left l.ahead l.room;
}

abbrev pub decreases-loop-number : goal.decreases-loop-number
decreases-loop-number l = length l.left + length l.ahead
