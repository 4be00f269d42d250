use Rattle.std.proofs.Common.{ℕ, take}
use Rattle.row_book.specs.{Holders.{HasAll, ListsClauses, holders_in}, Uses.{lists_in, list_in}}
use Rattle.listed.specs.Lists.{In}
use Rattle.row_book.proofs.clause_table.enter_all.Given as goal

abbrev pub invariant-loop-id : goal.invariant-loop-id
invariant-loop-id l = record {
  entered : (c : ℕ) → In c (take l.id-index l.ids) → In l.number (list_in l.users c);
  users : HasAll (lists_in l.fn.users) (lists_in l.users);
  lists : ListsClauses l.pool (holders_in l.fn.users l.fn.clauses) → ListsClauses l.pool (holders_in l.users l.clauses);
}
