use Rattle.std.proofs.Common.{◌≡◌, ◌+◌, ℕ, length}
use Rattle.row_book.specs.Uses.{list_in}
use Rattle.row_book.proofs.clause_table.make_lists.Given as goal

abbrev pub invariant-loop-i : goal.invariant-loop-i
invariant-loop-i l = record {
  size : length l.lists.items ≡ length l.fn.lists.items + l._i;
  same : (n : ℕ) → list_in l.lists.items n ≡ list_in l.fn.lists.items n;
}
