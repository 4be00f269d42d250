use Rattle.std.proofs.Common.{◌≡◌, false, take}
use Rattle.std.specs.List.{list_any}
use Rattle.row_book.specs.Flags.{flag}
use Rattle.suite_part.proofs.subset.has_one.Given as goal

abbrev pub invariant-loop-number : goal.invariant-loop-number
invariant-loop-number l = list_any (flag l.flags) (take l.number-index l.numbers) ≡ false
