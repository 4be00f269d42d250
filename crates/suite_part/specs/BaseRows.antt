-- The rows of a base, one for each package of the book.
use Rattle.std.specs.Prelude.{◌≡◌, ℕ, ◌<◌, List, length}
use Rattle.clause_pool.specs.Interned.{Interned, ids_at, row_at, OfPool}
use Rattle.listed.specs.Lists.{In}

-- a row for each package of the book; the rows and their clauses are of the pool, and name only
-- numbers of the book
pub record AreBaseRows (pool : Interned) (rows : List ℕ) (count : ℕ) : Type 0 where
  pub size : length rows ≡ count
  pub of_pool : (id : ℕ) → In id rows → id < length pool.rows
  pub clauses : (id : ℕ) → In id rows → OfPool pool (ids_at pool id)
  pub numbers : (id : ℕ) → In id rows → (c : List ℕ) → In c (row_at pool id) →
      (n : ℕ) → In n c → n < count
