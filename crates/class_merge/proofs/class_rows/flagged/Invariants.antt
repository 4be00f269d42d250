use Rattle.std.proofs.Common.{◌≡◌, filter, take}
use Rattle.row_book.specs.Flags.{flag}
use Rattle.class_merge.proofs.class_rows.flagged.Given as goal

abbrev pub invariant-loop-number : goal.invariant-loop-number
invariant-loop-number l = l.made.items ≡ filter (flag l.flags) (take l.number-index l.numbers)
