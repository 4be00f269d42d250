use Rattle.std.proofs.Common.{◌≡◌, ℕ, ◌<◌, get_or}
use Rattle.clause_pool.specs.Interned.{clause_at}
use Rattle.row_book.proofs.comparing.is_same_row.Given as goal

abbrev pub invariant-loop-place : goal.invariant-loop-place
invariant-loop-place l = (k : ℕ) → k < l.place → clause_at l.pool (get_or l.ids k 0) ≡ clause_at l.other_pool (get_or l.others k 0)
