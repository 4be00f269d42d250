use Rattle.std.proofs.Common.{◌≡◌, take}
use Rattle.row_book.specs.Parts.{chosen_in}
use Rattle.suite_part.proofs.subset.Subset.put_among.Given as goal

abbrev pub invariant-loop-number : goal.invariant-loop-number
invariant-loop-number l = l.made.items ≡ chosen_in l.self.flags.items (take l.number-index l.numbers)
