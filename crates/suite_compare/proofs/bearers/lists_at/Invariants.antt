use Rattle.std.proofs.Common.{◌≡◌, take, map}
use Rattle.row_book.specs.Book.{listed_for}
use Rattle.suite_compare.proofs.bearers.lists_at.Given as goal

abbrev pub invariant-loop-place : goal.invariant-loop-place
invariant-loop-place l = l.made.items ≡ map (listed_for l.lists) (take l.place-index l.places)
