use Rattle.std.proofs.Common.{◌≡◌, map, take}
use Rattle.row_book.specs.Parts.{number_in}
use Rattle.suite_part.proofs.subset.Subset.spread.Given as goal

abbrev pub invariant-loop-place : goal.invariant-loop-place
invariant-loop-place l = l.made.items ≡ map (number_in l.list) (take l.place-index l.self.places.items)
