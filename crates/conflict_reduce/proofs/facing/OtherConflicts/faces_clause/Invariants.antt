use Rattle.std.proofs.Common.{◌≡◌, ℕ, ◌<◌, false, get_or}
use Rattle.clause_pool.specs.Interned.{clause_at}
use Rattle.row_book.specs.Facing.{all_against}
use Rattle.conflict_reduce.specs.Others.{is_other_conflict}
use Rattle.conflict_reduce.proofs.facing.OtherConflicts.faces_clause.Given as goal

abbrev pub invariant-loop-id : goal.invariant-loop-id
invariant-loop-id l = (k : ℕ) → k < l.id-index → all_against (is_other_conflict l.self) l.list (clause_at l.pool (get_or l.row k 0)) ≡ false
