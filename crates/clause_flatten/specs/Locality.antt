-- Elimination is local: among packages that name none but each other it goes as if there were no
-- others.
use Rattle.std.specs.Prelude.{◌≡◌, ℕ, ◌<◌, ◌≤◌, true, false, List, map, length, None}
use Rattle.listed.specs.Lists.{In}
use Rattle.row_book.specs.{Sets.{NumSet}, Repository.{Repository, clauses_of}, Support.{row}}
use Rattle.row_book.specs.Flattening.{core_of, has_conflict, passes, remaining_after, row_length}

-- the packages of U stand in another repository too, under other numbers in the same order. Their
-- clauses name none but each other and are the same there. Each has a conflict there exactly if it
-- has one here
pub record StandsIn (R : Repository) (U : NumSet) (there : ℕ → ℕ)
    (other : Repository) : Type 0 where
  pub packages : (n : ℕ) → U n ≡ true → n < length R.clauses
  pub closed : (p : ℕ) → U p ≡ true → (c : List ℕ) → In c (clauses_of R p) →
      (n : ℕ) → In n c → U n ≡ true
  pub within : (n : ℕ) → U n ≡ true → there n < length other.clauses
  pub rising : (m n : ℕ) → U m ≡ true → U n ≡ true → m < n → there m < there n
  pub clauses : (p : ℕ) → U p ≡ true → clauses_of other (there p) ≡ map (map there) (clauses_of R p)
  pub conflicts : (p : ℕ) → U p ≡ true → has_conflict other (there p) ≡ has_conflict R p

-- without hold their rows over the core are the same
abbrev pub FlatIsLocal : Type 0
FlatIsLocal = (limit : ℕ) (R : Repository) (U : NumSet) (there : ℕ → ℕ) (other : Repository) →
    StandsIn R U there other →
    (p : ℕ) → U p ≡ true → row other (core_of limit false other) (there p)
    ≡ map (map there) (row R (core_of limit false R) p)

-- without hold, if no row of the one passes the limit at any stage, no row of theirs does in the
-- other
abbrev pub LimitIsLocal : Type 0
LimitIsLocal = (limit : ℕ) (R : Repository) (U : NumSet) (there : ℕ → ℕ) (other : Repository) →
    StandsIn R U there other →
    passes limit false R ≡ None → (i p : ℕ) → U p ≡ true →
    row_length other (remaining_after limit false other i).left (there p) ≤ limit
