-- for the bodies of this crate alone
-- Pairs in order, and lists of conflicts while they grow.
use Rattle.std.specs.Prelude.{◌≡◌, ◌≢◌, ℕ, ◌<◌, ◌≤◌, Bool, true, false, eqb, cond, List, [], ◌∷◌}
use Rattle.std.specs.Prelude.{◌++◌, ◌⊎◌, length}
use Rattle.listed.specs.Lists.{In, Ascending}
use Rattle.row_book.specs.{Book.{listed_for, are_paired}, declared.pair.Pair.{Pair}}

-- the first pair comes no later than the second, by the lesser and then by the greater number
abbrev pub NoLater : Pair → Pair → Type 0
NoLater x y = (x.low < y.low) ⊎ ((x.low ≡ y.low) × (x.high ≤ y.high))

-- no pair comes later than one that follows it in the list
abbrev pub Rising : List Pair → Type 0
Rising [] = Unit {0}
Rising (x ∷ xs) = ((y : Pair) → In y xs → NoLater x y) × Rising xs

-- each list of the table is empty
abbrev pub AllEmpty : List (List ℕ) → Type 0
AllEmpty table = (p : ℕ) → listed_for table p ≡ []

-- whether the list ends in the number
abbrev pub is_last : List ℕ → ℕ → Bool
is_last [] n = false
is_last (x ∷ []) n = eqb x n
is_last (x ∷ (y ∷ ys)) n = is_last (y ∷ ys) n

-- the list with the number appended, unless the number is the last already
abbrev pub with_last : List ℕ → ℕ → List ℕ
with_last xs n = cond (is_last xs n) xs (xs ++ n ∷ [])

-- the table has for each package below the size, ascending, those that it is paired with
pub record ListsPairs (table : List (List ℕ)) (size : ℕ) (pairs : List Pair) : Type 0 where
  pub count : length table ≡ size
  pub ascending : (p : ℕ) → Ascending (listed_for table p)
  pub has_all : (p q : ℕ) → are_paired pairs p q ≡ true → In q (listed_for table p)
  pub only : (p q : ℕ) → In q (listed_for table p) → are_paired pairs p q ≡ true

-- in the new table each of the two packages is appended to the other's list, unless it was the last
-- there
pub record Entered (table new : List (List ℕ)) (l h : ℕ) : Type 0 where
  pub count : length new ≡ length table
  pub low : listed_for new l ≡ with_last (listed_for table l) h
  pub high : listed_for new h ≡ with_last (listed_for table h) l
  pub other : (p : ℕ) → p ≢ l → p ≢ h → listed_for new p ≡ listed_for table p
