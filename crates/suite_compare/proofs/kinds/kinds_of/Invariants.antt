use Rattle.row_book.specs.Book.{listed_for}
use Rattle.suite_compare.specs.Kinds.{AreNumbered}
use Rattle.suite_compare.proofs.kinds.kinds_of.Given as goal

abbrev pub invariant-loop-list : goal.invariant-loop-list
invariant-loop-list l = AreNumbered (listed_for l.lists) l.list-index l.numbering.seen l.numbering.firsts.items l.numbering.number_of.items
