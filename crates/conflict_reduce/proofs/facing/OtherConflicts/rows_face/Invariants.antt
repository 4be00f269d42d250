use Rattle.std.proofs.Common.{◌≡◌, ◌∷◌, [], ℕ, ◌<◌, false, get_or}
use Rattle.std.specs.List.{list_any}
use Rattle.clause_pool.specs.Interned.{clause_at, clauses_at}
use Rattle.row_book.specs.Facing.{all_against}
use Rattle.conflict_reduce.specs.Others.{is_other_conflict}
use Rattle.conflict_reduce.proofs.facing.OtherConflicts.rows_face.Given as goal

abbrev pub invariant-loop-id : goal.invariant-loop-id
invariant-loop-id l = (k : ℕ) → k < l.id-index →
    list_any (all_against (is_other_conflict l.self) (clause_at l.pool (get_or l.first k 0))) ((l.self.pair.high ∷ []) ∷ clauses_at l.pool l.second) ≡ false
