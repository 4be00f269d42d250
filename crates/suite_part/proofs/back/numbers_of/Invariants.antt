use Rattle.std.proofs.Common.{◌≡◌, take}
use Rattle.row_book.specs.Parts.{clause_in}
use Rattle.suite_part.proofs.back.numbers_of.Given as goal

abbrev pub invariant-loop-place : goal.invariant-loop-place
invariant-loop-place l = l.made.items ≡ clause_in l.numbers (take l.place-index l.places)
