use Rattle.std.proofs.Common.{ℕ, take}
use Rattle.row_book.specs.{Holders.{GainsOnly, HasAll}, Uses.{lists_in, list_in}}
use Rattle.listed.specs.Lists.{In}
use Rattle.row_book.proofs.clause_table.push_to_each.Given as goal

abbrev pub invariant-loop-number : goal.invariant-loop-number
invariant-loop-number l = record {
  there_now : (n : ℕ) → In n (take l.number-index l.numbers) → In l.item (list_in l.lists n);
  stays : HasAll (lists_in l.fn.lists) (lists_in l.lists);
  came : GainsOnly l.numbers l.item (lists_in l.fn.lists) (lists_in l.lists);
}
