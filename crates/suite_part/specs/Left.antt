-- for the bodies of this crate alone
-- What is left of clauses and rows, if its ids are known.
use Rattle.std.specs.Prelude.{◌≡◌, ℕ, ◌<◌, Bool, true, List, Option, Some, None, length}
use Rattle.std.specs.Prelude.{slice_index_or}
use Rattle.clause_pool.specs.Interned.{Interned, clause_at, row_at}
use Rattle.listed.specs.Lists.{In}
use Rattle.row_book.specs.{Flags.{flag}, Parts.{chosen_in, row_in}}
use Rattle.suite_part.specs.declared.rows.LeftRows.{LeftRows}

-- the id of what is left of a clause of another pool
pub record IsLeft (from : Interned) (flags : List Bool) (pool : Interned)
    (id new : ℕ) : Type 0 where
  pub within : new < length pool.clauses
  pub is : clause_at pool new ≡ chosen_in flags (clause_at from id)

-- An id or none, and a flag, for each clause of that pool. An id is that of what is left of the
-- clause. A flag is up only if all packages of the clause are chosen.
pub record AreLeft (from : Interned) (flags : List Bool) (pool : Interned) (known : List (Option ℕ))
    (whole : List Bool) : Type 0 where
  pub size : length known ≡ length from.clauses
  pub each : (id new : ℕ) → slice_index_or known id None ≡ Some new → IsLeft from flags pool id new
  pub count : length whole ≡ length from.clauses
  pub all : (id : ℕ) → flag whole id ≡ true →
      (n : ℕ) → In n (clause_at from id) → flag flags n ≡ true

-- the id of what is left of a row of another pool
pub record IsRowLeft (from : Interned) (flags : List Bool) (pool : Interned)
    (id new : ℕ) : Type 0 where
  pub within : new < length pool.rows
  pub is : row_at pool new ≡ row_in flags (row_at from id)

-- an id or none for each row of that pool; an id is that of what is left of the row
pub record AreRowsLeft (from : Interned) (flags : List Bool) (pool : Interned)
    (known : List (Option ℕ)) : Type 0 where
  pub size : length known ≡ length from.rows
  pub each : (id new : ℕ) → slice_index_or known id None ≡ Some new →
      IsRowLeft from flags pool id new

-- what is known of the rows of that pool, and of its clauses
pub record AreAllLeft (from : Interned) (flags : List Bool) (pool : Interned)
    (left : LeftRows) : Type 0 where
  pub rows : AreRowsLeft from flags pool left.known.items
  pub clauses : AreLeft from flags pool left.clauses.known.items left.clauses.whole.items
