use Rattle.std.proofs.Common.{◌≡◌, filter, take}
use Rattle.std.specs.List.{list_all}
use Rattle.row_book.specs.{Book.{listed_for}, Facing.{against_in}}
use Rattle.row_book.proofs.conflicting.common_conflicts.Given as goal

abbrev pub invariant-loop-number : goal.invariant-loop-number
invariant-loop-number l = l.common.items ≡ filter (λ n. list_all (λ m. against_in l.table m n) l.others) (take l.number-index (listed_for l.table l.first))
