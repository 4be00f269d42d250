use Rattle.std.proofs.Common.{◌≡◌, ℕ, length}
use Rattle.row_book.specs.Uses.{IsListOf, list_in}
use Rattle.row_book.proofs.Users.{uses_number}
use Rattle.row_book.proofs.uses.UseTable.of.Given as goal

abbrev pub invariant-loop-number : goal.invariant-loop-number
invariant-loop-number l = record {
  size : length l.users.items ≡ length l.rows;
  listed : (n : ℕ) → IsListOf (uses_number l.pool l.rows l.number n) (list_in l.users.items n);
}
