use Rattle.std.proofs.Common.{◌++◌, not}
use Rattle.std.specs.Prelude.{count_by}
use Rattle.search_terms.specs.Marks.{IsWithin, is_marked}
use Rattle.search_terms.proofs.Sets.{IsSoundly}
use Rattle.refutation_check.proofs.flags.close.Given as goal

abbrev pub invariant-loop-l : goal.invariant-loop-l
invariant-loop-l l = record {
  kept : IsWithin (is_marked l.initial.flags) (is_marked l.flags);
  sound : IsSoundly (l.first ++ l.second) (is_marked l.initial.flags) (is_marked l.flags);
}

abbrev pub decreases-loop-l : goal.decreases-loop-l
decreases-loop-l l = count_by not l.flags
