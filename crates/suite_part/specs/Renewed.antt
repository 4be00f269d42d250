-- for the bodies of this crate alone
-- The rows of a base with some of them made anew.
use Rattle.std.specs.Prelude.{◌≡◌, ℕ, ◌<◌, ◌++◌, Bool, true, false, List, [], length, replicate}
use Rattle.clause_pool.specs.Interned.{Interned, ids_at, row_at, OfPool}
use Rattle.listed.specs.Lists.{In}
use Rattle.row_book.specs.{Flags.{flag}, Parts.{clauses_in, numbers_up, place_in}, Uses.{row_id}}

-- rows, followed by a number of empty ones
pub record EndsInEmpty (pool : Interned) (rows : List ℕ) (count : ℕ) (all : List ℕ) : Type 0 where
  pub id : ℕ
  pub within : id < length pool.rows
  pub empty : row_at pool id ≡ []
  pub are : all ≡ rows ++ replicate count id

-- rows of a part of a book, one for each of its packages; their clauses name no others
pub record AreRowsOf (pool : Interned) (apart : List Bool) (rows : List ℕ) : Type 0 where
  pub count : length rows ≡ place_in apart (length apart)
  pub of_pool : (id : ℕ) → In id rows → id < length pool.rows
  pub numbers : (id : ℕ) → In id rows → (c : List ℕ) → In c (row_at pool id) →
      (n : ℕ) → In n c → n < length rows

-- the id of the row of a package in a part, if it has changed and is there
pub record IsNewRow (rows : List ℕ) (apart changed : List Bool) (n id : ℕ) : Type 0 where
  pub there : flag apart n ≡ true
  pub changed_is : flag changed n ≡ true
  pub is : row_id rows (place_in apart n) ≡ id

-- A row of the pool, whose clauses are of the pool and name only packages of the book. If the
-- package has not changed, it is the old row. If it has changed and is in the part, it is its row
-- there in the numbers of the book. Of any other package nothing more is said.
pub record IsRenewed (from : Interned) (made : List ℕ) (apart changed : List Bool) (pool : Interned)
    (rows : List ℕ) (n row : ℕ) : Type 0 where
  pub within : row < length pool.rows
  pub clauses : OfPool pool (ids_at pool row)
  pub numbers : (c : List ℕ) → In c (row_at pool row) → (m : ℕ) → In m c → m < length rows
  pub stays : flag changed n ≡ false → row ≡ row_id rows n
  pub new : (id : ℕ) → IsNewRow made apart changed n id →
      row_at pool row ≡ clauses_in (numbers_up apart) (row_at from id)

-- a renewed row for each package of the book
pub record AreRenewed (from : Interned) (made : List ℕ) (apart changed : List Bool)
    (pool : Interned) (rows more : List ℕ) : Type 0 where
  pub count : length more ≡ length rows
  pub each : (n : ℕ) → n < length rows →
      IsRenewed from made apart changed pool rows n (row_id more n)
