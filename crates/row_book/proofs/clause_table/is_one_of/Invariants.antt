use Rattle.std.proofs.Common.{◌≡◌, false, take}
use Rattle.listed.specs.Lists.{has}
use Rattle.row_book.proofs.clause_table.is_one_of.Given as goal

abbrev pub invariant-loop-place : goal.invariant-loop-place
invariant-loop-place l = has (take l.place-index l.places) l.id ≡ false
