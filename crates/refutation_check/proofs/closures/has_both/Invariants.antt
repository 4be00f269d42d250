use Rattle.std.proofs.Common.{ℕ, ◌<◌, ◌≡◌, true, false}
use Rattle.search_terms.specs.Marks.{is_marked}
use Rattle.search_terms.proofs.Sets.{literal_of}
use Rattle.refutation_check.proofs.closures.has_both.Given as goal

abbrev pub invariant-loop-class : goal.invariant-loop-class
invariant-loop-class l = (k : ℕ) → k < l.class → is_marked l.flags (literal_of k true) ≡ true → is_marked l.flags (literal_of k false) ≡ true → ⊥
