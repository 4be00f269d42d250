-- for the bodies of this crate alone
-- What a pool gains while the clauses of packages are added to it.
use Rattle.std.specs.Prelude.{◌≡◌, ℕ, ◌<◌, ◌≤◌, List, length, map}
use Rattle.clause_pool.specs.Interned.{Interned, clauses_at, ids_at, row_at, Kept, OfPool}
use Rattle.row_book.specs.Book.{AddsOnly}
use Rattle.listed.specs.Lists.{In}

-- the ids stand for these clauses, and the pool has gained no row and only clauses among these
pub record HasIds (old new : Interned) (row : List (List ℕ)) (ids : List ℕ) : Type 0 where
  pub rows : new.rows ≡ old.rows
  pub kept : Kept old new
  pub of_pool : OfPool new ids
  pub clauses : clauses_at new ids ≡ row
  pub only : (id : ℕ) → length old.clauses ≤ id → id < length new.clauses → In id ids

-- the rows have these clauses, and the pool has gained only rows among these and their clauses
pub record HasRows (old new : Interned) (table : List (List (List ℕ)))
    (rows : List ℕ) : Type 0 where
  pub kept : Kept old new
  pub within : (row : ℕ) → In row rows → row < length new.rows
  pub of_pool : (row : ℕ) → In row rows → OfPool new (ids_at new row)
  pub clauses : map (row_at new) rows ≡ table
  pub only : AddsOnly old new rows
