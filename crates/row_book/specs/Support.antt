-- Support of a package by others, the sets that block it, and its row. A package without conflicts
-- can be added to any installation as soon as its clauses are hit. So the clauses of a package can
-- be put in terms of the packages with conflicts alone. This is the section on flattening of
-- Vouillon and Di Cosmo, "On Software Component Co-Installability".
use Rattle.std.specs.Prelude.{◌≡◌, ◌≢◌, ℕ, ◌<◌, Bool, false, not, ◌&&◌, ◌||◌, eqb, List, ◌∷◌, ◌⊎◌}
use Rattle.std.specs.{Prelude.{length}, List.{list_all, list_any, filter}}
use Rattle.row_book.specs.Sets.{NumSet, Is, minus, without}
use Rattle.row_book.specs.{Repository.{Repository, Satisfied, clauses_of}, Numbers.{subsets}}
use Rattle.listed.specs.Lists.{In, has, Ascending, Inside, is_inside}

-- the members of X, the helpers J and the package p together
abbrev pub Alive : NumSet → NumSet → ℕ → ℕ → Type 0
Alive X J p n = Is X n ⊎ (Is J n ⊎ (n ≡ p))

-- X supports p over V: there are helpers, packages outside V, such that X, the helpers and p
-- together hit each clause of each helper and of p
pub record Support (R : Repository) (V : NumSet) (p : ℕ) (X : NumSet) : Type 0 where
  pub helpers : NumSet
  pub packages : (n : ℕ) → Is helpers n → n < length R.clauses
  pub outside : (n : ℕ) → Is helpers n → V n ≡ false
  pub own : Satisfied R (Alive X helpers p) p
  pub others : (n : ℕ) → Is helpers n → Satisfied R (Alive X helpers p) n

-- a blocking set of p over V: members of V other than p, such that V without them does not support
-- p
pub record Blocks (R : Repository) (V : NumSet) (p : ℕ) (T : List ℕ) : Type 0 where
  pub within : (n : ℕ) → In n T → Is V n
  pub apart : (n : ℕ) → In n T → n ≢ p
  pub fails : Support R V p (minus V T) → ⊥

-- a minimal blocking set: no other one is within it
pub record MinimalBlock (R : Repository) (V : NumSet) (p : ℕ) (T : List ℕ) : Type 0 where
  pub ascending : Ascending T
  pub blocks : Blocks R V p T
  pub minimal : (S : List ℕ) → Blocks R V p S → Inside S T → Inside T S

-- the row of p over V: the clauses are exactly the minimal blocking sets
pub record IsRow (R : Repository) (V : NumSet) (p : ℕ) (clauses : List (List ℕ)) : Type 0 where
  pub sound : (T : List ℕ) → In T clauses → MinimalBlock R V p T
  pub whole : (T : List ℕ) → MinimalBlock R V p T → In T clauses

-- The definitions above as tests, over all sets of packages: the row is a list that a definition
-- can name. From `is_supported` on each is exponential in the number of packages, so only small
-- examples are computed.

-- the members of X and of the list J and the package p together
abbrev pub among : NumSet → List ℕ → ℕ → NumSet
among X J p n = X n || (has J n || eqb n p)

-- whether X supports p over V with the helpers J: they are outside V, and X, J and p together hit
-- each clause of p and of each helper
unfoldable pub supports : Repository → NumSet → ℕ → NumSet → List ℕ → Bool
supports R V p X J =
    list_all (λ n. not (V n)) J
    && list_all (λ n. list_all (λ c. list_any (among X J p) c) (clauses_of R n)) (p ∷ J)

-- whether it does with some helpers
unfoldable pub is_supported : Repository → NumSet → ℕ → NumSet → Bool
is_supported R V p X = list_any (supports R V p X) (subsets (length R.clauses))

-- whether T has only packages of V other than p, and V without T does not support p
unfoldable pub blocks : Repository → NumSet → ℕ → List ℕ → Bool
blocks R V p T = list_all (without V p) T && not (is_supported R V p (minus V T))

-- whether T blocks p, and no other blocking set is within it
unfoldable pub is_minimal_block : Repository → NumSet → ℕ → List ℕ → Bool
is_minimal_block R V p T =
    blocks R V p T
    && list_all (λ S.
    not (blocks R V p S && is_inside S T) || is_inside T S) (subsets (length R.clauses))

-- the row of p over V, in lexicographic order
unfoldable pub row : Repository → NumSet → ℕ → List (List ℕ)
row R V p = filter (is_minimal_block R V p) (subsets (length R.clauses))
