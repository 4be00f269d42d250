use Rattle.row_book.specs.{Holders.{ListsClauses, holders_in}, Uses.{lists_in}}
use Rattle.row_book.proofs.Holders.{AreUsers}
use Rattle.row_book.proofs.clause_table.enter_rows.Given as goal

abbrev pub invariant-loop-number : goal.invariant-loop-number
invariant-loop-number l = record {
  users : AreUsers l.rows l.number (lists_in l.users);
  lists : ListsClauses l.pool (holders_in l.users l.clauses);
}
