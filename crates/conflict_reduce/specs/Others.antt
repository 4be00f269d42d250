-- for the bodies of this crate alone
-- The conflicts of a table that are not gone, without that of one pair.
use Rattle.std.specs.{Prelude.{ℕ, Bool, List, filter}, List.{list_all}}
use Rattle.row_book.specs.Book.{listed_for}
use Rattle.conflict_reduce.specs.declared.facing.OtherConflicts.{OtherConflicts}
use Rattle.conflict_reduce.specs.Tests.{conflict_but, left_of}

-- whether m and n have such a conflict
abbrev pub is_other_conflict : OtherConflicts → ℕ → ℕ → Bool
is_other_conflict others = conflict_but (left_of others.table.now others.gone.now) others.pair

-- the conflicts of the first package, by the table, that have such a conflict with each number of
-- the list
abbrev pub common_others : OtherConflicts → ℕ → List ℕ → List ℕ
common_others others first list = filter (λ n.
    list_all (λ m. is_other_conflict others m n) list) (listed_for others.table.now first)
