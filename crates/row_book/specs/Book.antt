-- Books: what a book of rows means for the pool that its rows are of.
use Rattle.std.specs.Prelude.{◌≡◌, ℕ, ◌<◌, Bool, true, false, ◌&&◌, ◌||◌, eqb, List, [], length}
use Rattle.std.specs.{Prelude.{map, filter, slice_index_or}, List.{list_any}}
use Rattle.clause_pool.specs.Interned.{Interned, IsPool, row_at}
pub use Rattle.clause_pool.specs.Compacting.{AddsOnly}
use Rattle.clause_pool.specs.Compacting.{RowsOf}
use Rattle.listed.specs.Lists.{In, has, Ascending, Inside}
use Rattle.row_book.specs.{Numbers.{numbers}, Uses.{row_id}, Repository.{Repository}}
use Rattle.row_book.specs.{declared.book.Book.{Book}, declared.pair.Pair.{Pair}}

-- the repository of a book: for each package the clauses of its row, and the packages that conflict
-- with it
abbrev pub repository_of : Interned → Book → Repository
repository_of pool book =
    record { clauses = map (row_at pool) book.rows; conflicts = book.conflicts }

-- each number in the rows is below the number of rows
abbrev pub NumbersFit : Interned → List ℕ → Type 0
NumbersFit pool rows = (id : ℕ) → In id rows → (c : List ℕ) → In c (row_at pool id) →
    (n : ℕ) → In n c → n < length rows

-- rows of a pool, in which each number is below the number of rows
pub record RowsFit (pool : Interned) (rows : List ℕ) : Type 0 where
  pub is_pool : IsPool pool
  pub of_pool : RowsOf pool rows
  pub numbers : NumbersFit pool rows

-- the conflicts of a package, as its list in a table
abbrev pub listed_for : List (List ℕ) → ℕ → List ℕ
listed_for table p = slice_index_or table p []

-- lists of conflicts: each strictly ascending, either way round, and without the package itself
pub record AreConflicts (table : List (List ℕ)) : Type 0 where
  pub ascending : (p : ℕ) → Ascending (listed_for table p)
  pub either_way : (p q : ℕ) → has (listed_for table p) q ≡ true → has (listed_for table q) p ≡ true
  pub apart : (p : ℕ) → has (listed_for table p) p ≡ false

-- a book is sound for a pool: its rows are of the pool, every number in them is a package, and so
-- are its conflicts
pub record Sound (pool : Interned) (book : Book) : Type 0 where
  pub rows : RowsFit pool book.rows
  pub conflicts : AreConflicts book.conflicts

-- one of the pairs is of the two packages, in one order or the other
abbrev pub are_paired : List Pair → ℕ → ℕ → Bool
are_paired pairs p q = list_any (λ pair.
    (eqb pair.low p && eqb pair.high q) || (eqb pair.low q && eqb pair.high p)) pairs

-- for each package below the size, ascending, those that it is paired with
unfoldable pub lists_of_pairs : List Pair → ℕ → List (List ℕ)
lists_of_pairs pairs size = map (λ p. filter (are_paired pairs p) (numbers size 0)) (numbers size 0)

-- the lesser package of each pair first, and both below the size
pub record PairsFit (pairs : List Pair) (size : ℕ) : Type 0 where
  pub ordered : (pair : Pair) → In pair pairs → pair.low < pair.high
  pub below : (pair : Pair) → In pair pairs → pair.high < size

-- a book in another pool: the same repository, and sound if the first is
pub record IsSameBook (pool : Interned) (book : Book) (new : Interned) (moved : Book) : Type 0 where
  pub repository : repository_of new moved ≡ repository_of pool book
  pub sound : Sound pool book → Sound new moved

-- no clause of a row holds the row's own package, or includes another clause of that row
pub record RowsTidy (pool : Interned) (rows : List ℕ) : Type 0 where
  pub apart : (p : ℕ) → p < length rows →
      (c : List ℕ) → In c (row_at pool (row_id rows p)) → In p c → ⊥
  pub minimal : (p : ℕ) → p < length rows → (c d : List ℕ) → In c (row_at pool (row_id rows p)) →
      In d (row_at pool (row_id rows p)) → Inside c d → c ≡ d
