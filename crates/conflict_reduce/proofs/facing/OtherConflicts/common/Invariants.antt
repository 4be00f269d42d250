use Rattle.std.proofs.Common.{◌≡◌, filter, take}
use Rattle.std.specs.List.{list_all}
use Rattle.row_book.specs.Book.{listed_for}
use Rattle.conflict_reduce.specs.Others.{is_other_conflict}
use Rattle.conflict_reduce.proofs.facing.OtherConflicts.common.Given as goal

abbrev pub invariant-loop-number : goal.invariant-loop-number
invariant-loop-number l = l.common.items ≡ filter (λ n. list_all (λ m. is_other_conflict l.self m n) l.list) (take l.number-index (listed_for l.self.table.now l.first))
