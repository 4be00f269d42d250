-- for the bodies of this crate alone
-- Clauses in their order, and the rank of each.
use Rattle.std.specs.Prelude.{◌≡◌, ℕ, ◌<◌, List, [], length, map, slice_index_or}
use Rattle.clause_pool.specs.Interned.{Interned, clause_at, clauses_at, IsPool, OfPool}
use Rattle.clause_pool.specs.Lists.{InOrder}
use Rattle.listed.specs.Lists.{In}
use Rattle.repo_model.specs.declared.ranks.Ranks.{Ranks}

-- the distinct ids, in the order of their clauses
pub record AreOrdered (pool : Interned) (ids order : List ℕ) : Type 0 where
  pub in_order : InOrder (clauses_at pool order)
  pub inside : (id : ℕ) → In id order → In id ids
  pub each : (id : ℕ) → In id ids → In id order

-- no id is at two places
abbrev pub EachIdOnce : List ℕ → Type 0
EachIdOnce order = (i j : ℕ) → i < length order → j < length order →
    slice_index_or order i 0 ≡ slice_index_or order j 0 → i ≡ j

-- each id of the order has its place in it
abbrev pub HasPlaces : List ℕ → List ℕ → Type 0
HasPlaces order places = (k : ℕ) → k < length order →
    slice_index_or places (slice_index_or order k 0) 0 ≡ k

-- clauses are in order, each once, and each rank is a place among them
pub record IsRanking (pool : Interned) (made : Ranks) : Type 0 where
  pub in_order : InOrder (clauses_at pool made.order.items)
  pub of_pool : OfPool pool made.order.items
  pub within : (rank : ℕ) → In rank made.ranks.items → rank < length made.order.items

-- the ids of ranks
abbrev pub ids_of_ranks : List ℕ → List ℕ → List ℕ
ids_of_ranks order ranks = map (λ rank. slice_index_or order rank 0) ranks

-- the clauses of the ids are in order, and each id has the rank of its clause
pub record AreRanked (pool : Interned) (ids : List ℕ) (made : Ranks) : Type 0 where
  pub sound : IsPool pool
  pub ranking : IsRanking pool made
  pub each : ids_of_ranks made.order.items made.ranks.items ≡ ids

-- the clause that a mark stands for, by its rank
abbrev pub clause_marked : Interned → Ranks → ℕ → List ℕ
clause_marked pool made mark =
    clause_at pool (slice_index_or made.order.items (slice_index_or made.ranks.items mark 0) 0)

abbrev pub clauses_marked : Interned → Ranks → List ℕ → List (List ℕ)
clauses_marked pool made marks = map (clause_marked pool made) marks
