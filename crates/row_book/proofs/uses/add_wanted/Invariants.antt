use Rattle.std.proofs.Common.{◌≡◌, ℕ, ◌&&◌, ◌||◌, take}
use Rattle.listed.specs.Lists.{has}
use Rattle.row_book.proofs.uses.add_wanted.Given as goal

abbrev pub invariant-loop-number : goal.invariant-loop-number
invariant-loop-number l = (n : ℕ) → has l.found.items n ≡ (has l.fn.found.items n || (has (take l.number-index l.clause) n && has l.wanted n))
