-- for the bodies of this crate alone
-- Clauses that were made in a part of a book, in the numbers of the book.
use Rattle.std.specs.Prelude.{◌≡◌, ℕ, ◌<◌, List, Option, Some, None, length, slice_index_or}
use Rattle.clause_pool.specs.Interned.{Interned, clause_at}
use Rattle.row_book.specs.Parts.{clause_in}

-- the id of a clause of the part in these numbers
pub record IsBack (from : Interned) (numbers : List ℕ) (pool : Interned) (id new : ℕ) : Type 0 where
  pub within : new < length pool.clauses
  pub is : clause_at pool new ≡ clause_in numbers (clause_at from id)

-- a place for each clause of the part; an id that is known there is that of the clause in these
-- numbers
pub record AreBack (from : Interned) (numbers : List ℕ) (pool : Interned)
    (known : List (Option ℕ)) : Type 0 where
  pub size : length known ≡ length from.clauses
  pub each : (id new : ℕ) → slice_index_or known id None ≡ Some new →
      IsBack from numbers pool id new
