use Rattle.std.proofs.Common.{◌≡◌, ◌<◌, ℕ, false, get_or}
use Rattle.row_book.specs.Flags.{flag}
use Rattle.suite_part.proofs.small.first_in.Given as goal

abbrev pub invariant-loop-number : goal.invariant-loop-number
invariant-loop-number l = (i : ℕ) → i < l.number-index → flag l.flags (get_or l.packages i 0) ≡ false
