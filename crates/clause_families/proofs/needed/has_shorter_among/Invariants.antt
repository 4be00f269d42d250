use Rattle.std.proofs.Common.{◌≡◌, ℕ, ◌<◌, false, [], get_or}
use Rattle.clause_families.specs.Inclusion.{is_strictly_inside}
use Rattle.clause_families.proofs.needed.has_shorter_among.Given as goal

abbrev pub invariant-loop-other : goal.invariant-loop-other
invariant-loop-other l = (k : ℕ) → k < l.other-index → is_strictly_inside (get_or l.family k []) l.clause ≡ false
