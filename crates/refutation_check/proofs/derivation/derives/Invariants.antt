use Rattle.std.proofs.Common.{ℕ, ◌<◌, ◌≡◌, ◌++◌, List, Some, take}
use Rattle.std.specs.Prelude.{slice_get, map}
use Rattle.search_terms.specs.{declared.literals.Literal.{Literal}, Closure.{Clashes, negation}}
use Rattle.refutation_check.proofs.derivation.derives.Given as goal

abbrev pub invariant-loop-k : goal.invariant-loop-k
invariant-loop-k l = (j : ℕ) (entry : List Literal) → j < l.k → slice_get l.log j ≡ Some entry → Clashes (l.formula ++ take j l.log) (map negation entry)
