use Rattle.std.proofs.Common.{◌≡◌, length}
use Rattle.row_book.specs.Book.{repository_of}
use Rattle.suite_compare.specs.Suspects.{AreAllChosen}
use Rattle.suite_compare.proofs.suspect.choices_of.Given as goal

abbrev pub invariant-loop-kind : goal.invariant-loop-kind
invariant-loop-kind l = record {
  size : l.chosen.0 ≡ length l.kernel.book.now.rows;
  chosen : AreAllChosen (repository_of l.kernel.pool.now l.kernel.book.now) l.kinds l.kind-index l.choices.items;
}
