-- for the bodies of this crate alone
-- The packages that wait to be taken out, each filed under the number of clauses of its row.
use Rattle.std.specs.Prelude.{◌≡◌, ℕ, ◌<◌, ◌≤◌, ◌⊎◌, true, false, eqb, cond, List, slice_index_or}
use Rattle.row_book.specs.Sets.{NumSet}

-- the number at a package that does not wait; it is more than any number of clauses
abbrev pub never : ℕ
never = 18446744073709551615

-- the number under which the package is filed
abbrev pub turn : List ℕ → ℕ → ℕ
turn turns q = slice_index_or turns q never

-- the packages of a set wait, each filed under its count, and no others
pub record Filed (turns : List ℕ) (may : NumSet) (count : ℕ → ℕ) : Type 0 where
  pub counts : (q : ℕ) → may q ≡ true → turn turns q ≡ count q
  pub few : (q : ℕ) → may q ≡ true → count q < never
  pub others : (q : ℕ) → may q ≡ false → turn turns q ≡ never

-- the package is one of the set, and none of the set has a lower count, or the same one and a
-- lesser number
pub record IsFirst (may : NumSet) (count : ℕ → ℕ) (q : ℕ) : Type 0 where
  pub waits : may q ≡ true
  pub least : (r : ℕ) → may r ≡ true → (count q < count r) ⊎ ((count q ≡ count r) × (q ≤ r))

-- the counts with another one for a package
abbrev pub recounted : (ℕ → ℕ) → ℕ → ℕ → ℕ → ℕ
recounted count p n q = cond (eqb q p) n (count q)
