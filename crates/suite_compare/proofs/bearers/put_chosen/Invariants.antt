use Rattle.std.proofs.Common.{◌≡◌, filter, take}
use Rattle.row_book.specs.Flags.{flag}
use Rattle.suite_compare.proofs.bearers.put_chosen.Given as goal

abbrev pub invariant-loop-number : goal.invariant-loop-number
invariant-loop-number l = l.chosen.items ≡ filter (flag l.flags) (take l.number-index l.numbers)
