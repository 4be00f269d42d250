use Rattle.std.proofs.Common.{◌≡◌, ◌∷◌, [], ℕ, ◌<◌, false, get_or}
use Rattle.std.specs.List.{list_any}
use Rattle.clause_pool.specs.Interned.{clause_at, clauses_at}
use Rattle.row_book.specs.Facing.{against_in, all_against}
use Rattle.clause_prune.proofs.pruned_package.PrunedPackage.rows_face.Given as goal

-- no clause so far faces a side
abbrev pub invariant-loop-id : goal.invariant-loop-id
invariant-loop-id l = (k : ℕ) → k < l.id-index →
    list_any (all_against (against_in l.self.table.now) (clause_at l.self.pool.now (get_or l.row k 0))) ((l.self.number ∷ []) ∷ clauses_at l.self.pool.now l.row) ≡ false
