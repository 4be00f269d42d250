use Rattle.std.proofs.Common.{◌≡◌, ℕ, ◌<◌, get_or}
use Rattle.clause_pool.specs.Interned.{row_at}
use Rattle.row_book.proofs.comparing.is_same_book.Given as goal

abbrev pub invariant-loop-number : goal.invariant-loop-number
invariant-loop-number l = (k : ℕ) → k < l.number → row_at l.pool (get_or l.book.rows k 0) ≡ row_at l.other_pool (get_or l.other.rows k 0)
