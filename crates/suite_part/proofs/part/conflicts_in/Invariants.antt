use Rattle.std.proofs.Common.{◌≡◌, map, take}
use Rattle.std.specs.List.{items_where_true}
use Rattle.row_book.specs.Parts.{chosen_in}
use Rattle.suite_part.proofs.part.conflicts_in.Given as goal

abbrev pub invariant-loop-number : goal.invariant-loop-number
invariant-loop-number l = l.lists.items ≡ map (chosen_in l.chosen.flags.items) (items_where_true (take l.number l.chosen.flags.items) l.book.conflicts)
