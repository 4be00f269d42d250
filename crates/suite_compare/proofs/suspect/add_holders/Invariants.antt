use Rattle.std.{proofs.Common.{◌≡◌, ◌++◌, take}, specs.List.{flat_map}}
use Rattle.row_book.specs.Book.{listed_for}
use Rattle.suite_compare.proofs.suspect.add_holders.Given as goal

abbrev pub invariant-loop-class : goal.invariant-loop-class
invariant-loop-class l = l.found.items ≡ l.initial.found.items ++ flat_map (listed_for l.holders) (take l.class-index l.classes)
