-- for the bodies of this crate alone
-- Packages that were met, in their order, with a flag for each package.
use Rattle.std.specs.Prelude.{◌≡◌, ℕ, ◌+◌, ◌<◌, ◌≤◌, Bool, not, List, ◌++◌, count_by, length}
use Rattle.std.specs.Prelude.{slice_index_or}
use Rattle.row_book.specs.{Flags.{flag}, Repository.{Repository, clauses_of}, Sets.{Is, NumSet}}
use Rattle.listed.specs.Lists.{In, has}
use Rattle.explain_core.specs.Reach.{HoldsNeeds}

-- the flags that are up are those of the packages, and each of these is there once
pub record IsMetList (flags : List Bool) (order : List ℕ) : Type 0 where
  pub each : (n : ℕ) → flag flags n ≡ has order n
  pub few : length order + count_by not flags ≤ length flags

-- the packages that were not met yet are appended
pub record Meets (old new more : List ℕ) : Type 0 where
  pub rest : List ℕ
  pub behind : new ≡ old ++ rest
  pub all : (n : ℕ) → In n more → In n new
  pub only : (n : ℕ) → In n rest → In n more

-- The packages of the goals were met, and what the packages before the place need. Each package
-- that was met is within each set that has the packages of the goals and what its packages need.
pub record IsReachedTo (R : Repository) (goals : List (List ℕ)) (order : List ℕ)
    (place : ℕ) : Type 0 where
  pub before : place ≤ length order
  pub below : (n : ℕ) → In n order → n < length R.clauses
  pub of_goals : (g : List ℕ) → In g goals → (n : ℕ) → In n g → In n order
  pub of_clauses : (j : ℕ) → j < place →
      (c : List ℕ) → In c (clauses_of R (slice_index_or order j 0)) → (n : ℕ) → In n c → In n order
  pub least : (T : NumSet) → HoldsNeeds R goals T → (n : ℕ) → In n order → Is T n
