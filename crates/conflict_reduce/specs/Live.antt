-- for the bodies of this crate alone
-- The clauses that can take part in thinning.
use Rattle.std.specs.Prelude.{◌≡◌, ℕ, Bool, true, not, eqb, List, [], ◌∷◌, length, map, filter}
use Rattle.clause_pool.specs.Interned.{Interned, clause_at, ids_at}
use Rattle.row_book.specs.{declared.book.Book.{Book}, Numbers.{numbers}, Facing.{common_to}}
use Rattle.row_book.specs.{Uses.{row_id}, Book.{Sound}}
use Rattle.conflict_reduce.specs.declared.live.LiveBook.{LiveBook}

-- whether the clause is empty, or its members have a conflict in common
abbrev pub may_face : List (List ℕ) → List ℕ → Bool
may_face table [] = true
may_face table (m ∷ ms) = not (eqb (length (common_to table m ms)) 0)

-- the ids of the clauses of a package that can take part
abbrev pub live_ids : Interned → Book → ℕ → List ℕ
live_ids pool book p =
    filter (λ id. may_face book.conflicts (clause_at pool id)) (ids_at pool (row_id book.rows p))

-- for each package the ids of its clauses that can take part
unfoldable pub live_of : Interned → Book → List (List ℕ)
live_of pool book = map (live_ids pool book) (numbers (length book.rows) 0)

-- a sound book that is thinned, with the clauses that can take part
pub record IsLiveBook (b : LiveBook) : Type 0 where
  pub sound : Sound b.pool.now b.book.now
  pub live : b.live.items ≡ live_of b.pool.now b.book.now
