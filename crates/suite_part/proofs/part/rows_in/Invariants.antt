use Rattle.row_book.specs.Book.{repository_of}
use Rattle.suite_part.specs.Left.{AreAllLeft}
use Rattle.suite_part.proofs.Parted.{PartedTo}
use Rattle.suite_part.proofs.part.rows_in.Given as goal

abbrev pub invariant-loop-place : goal.invariant-loop-place
invariant-loop-place l = record {
  rows : PartedTo l.fn.pool l.pool l.chosen.flags.items (repository_of l.from l.book).clauses l.rows.items l.place;
  known : AreAllLeft l.from l.chosen.flags.items l.pool l.left;
}
