-- Repositories, and the sets of packages that can be installed together: Vouillon and Di Cosmo,
-- "On Software Component Co-Installability".
use Rattle.std.specs.Prelude.{◌≡◌, ℕ, ◌<◌, Bool, false, List, [], length, slice_index_or}
use Rattle.row_book.specs.Sets.{NumSet, Is, Within, Hit}
use Rattle.listed.specs.Lists.{In, has}

-- for each package, by its number, its clauses and the packages that conflict with it
pub record Repository : Type 0 where
  pub clauses : List (List (List ℕ))
  pub conflicts : List (List ℕ)

abbrev pub clauses_of : Repository → ℕ → List (List ℕ)
clauses_of R p = slice_index_or R.clauses p []

abbrev pub conflicts_of : Repository → ℕ → List ℕ
conflicts_of R p = slice_index_or R.conflicts p []

-- whether the second package is among the conflicts of the first
abbrev pub against : Repository → ℕ → ℕ → Bool
against R p q = has (conflicts_of R p) q

-- A has a member of each clause of the package
abbrev pub Satisfied : Repository → (ℕ → Type 0) → ℕ → Type 0
Satisfied R A p = (c : List ℕ) → In c (clauses_of R p) → Hit A c

-- A healthy set is a set of packages with abundance and peace. Abundance: each clause of each
-- member is hit by the set. Peace: no two members conflict, and none with itself.
pub record Healthy (R : Repository) (I : NumSet) : Type 0 where
  pub packages : (n : ℕ) → Is I n → n < length R.clauses
  pub abundance : (n : ℕ) → Is I n → Satisfied R (Is I) n
  pub peace : (m n : ℕ) → Is I m → Is I n → against R m n ≡ false

-- a set is co-installable if some healthy set contains it
pub record Coinst (R : Repository) (S : NumSet) : Type 0 where
  pub whole : NumSet
  pub healthy : Healthy R whole
  pub contains : Within S whole
