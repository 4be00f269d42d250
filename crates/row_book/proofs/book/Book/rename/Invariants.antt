use Rattle.row_book.proofs.Moved.{RenamedTo}
use Rattle.row_book.proofs.book.Book.rename.Given as goal

abbrev pub invariant-loop-row : goal.invariant-loop-row
invariant-loop-row l = RenamedTo l.remap l.row-items l.rows.items l.row-index
