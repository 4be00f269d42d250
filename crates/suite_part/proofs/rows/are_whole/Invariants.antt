use Rattle.std.proofs.Common.{◌≡◌, true, take}
use Rattle.std.specs.List.{list_all}
use Rattle.row_book.specs.Flags.{flag}
use Rattle.suite_part.proofs.rows.are_whole.Given as goal

abbrev pub invariant-loop-id : goal.invariant-loop-id
invariant-loop-id l = list_all (flag l.whole) (take l.id-index l.row) ≡ true
