use Rattle.std.proofs.Common.{ℕ, ◌≡◌, [], length}
use Rattle.row_book.specs.Book.{listed_for}
use Rattle.kernel_text.proofs.build_book.no_ids.Given as goal

abbrev pub invariant-loop : goal.invariant-loop
invariant-loop l = record { count : length l.table.items ≡ l.counter; empty : (n : ℕ) → listed_for l.table.items n ≡ [] }
