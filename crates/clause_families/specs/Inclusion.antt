-- for bodies alone, those of other crates too
-- Clauses that lie within other ones.
use Rattle.std.specs.{Prelude.{ℕ, Bool, not, ◌&&◌, ltb, List, length}, List.{list_any}}
use Rattle.listed.specs.Lists.{has, is_inside}

-- whether the first clause is within the second, and shorter
abbrev pub is_strictly_inside : List ℕ → List ℕ → Bool
is_strictly_inside S T = ltb (length S) (length T) && is_inside S T

-- whether a shorter clause of the family is within the clause
abbrev pub has_shorter : List (List ℕ) → List ℕ → Bool
has_shorter family clause = list_any (λ other. is_strictly_inside other clause) family

-- whether a clause of the family is within the clause
abbrev pub some_inside : List (List ℕ) → List ℕ → Bool
some_inside family clause = list_any (λ other. is_inside other clause) family

-- whether the clause has fewer numbers than the size, all of them wanted
abbrev pub is_within : List ℕ → ℕ → List ℕ → Bool
is_within wanted size clause = ltb (length clause) size && is_inside clause wanted

-- whether a clause of p stays: it does not hold p, and no shorter one is within it
abbrev pub stays : ℕ → List (List ℕ) → List ℕ → Bool
stays p cs T = not (has T p) && not (has_shorter cs T)
