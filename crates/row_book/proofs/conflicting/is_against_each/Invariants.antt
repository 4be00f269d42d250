use Rattle.std.proofs.Common.{◌≡◌, ℕ, ◌<◌, true, get_or}
use Rattle.row_book.specs.Facing.{against_in}
use Rattle.row_book.proofs.conflicting.is_against_each.Given as goal

abbrev pub invariant-loop-other : goal.invariant-loop-other
invariant-loop-other l = (k : ℕ) → k < l.other-index → against_in l.table (get_or l.others k 0) l.number ≡ true
