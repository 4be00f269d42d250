-- What a log of a search derives: reverse unit propagation, as in the proofs that solvers of
-- propositional formulas print.
use Rattle.std.specs.Prelude.{◌≡◌, ℕ, ◌-◌, List, [], ◌++◌, length, map, take, slice_get, Some}
use Rattle.search_terms.specs.{declared.literals.Literal.{Literal}, Closure.{negation, Clashes}}

-- The log derives the empty entry, which is its last. For each entry the closure of its negated
-- literals, over the formula and the entries before it, clashes.
pub record Derives (formula log : List (List Literal)) : Type 0 where
  pub last : slice_get log (length log - 1) ≡ Some []
  pub each : (k : ℕ) (entry : List Literal) → slice_get log k ≡ Some entry →
      Clashes (formula ++ take k log) (map negation entry)
