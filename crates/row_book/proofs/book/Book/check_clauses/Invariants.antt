use Rattle.std.proofs.Common.{ℕ, ◌<◌}
use Rattle.row_book.specs.{Sets.{Is}, Repository.{Satisfied}, Book.{repository_of}, Flags.{flag}}
use Rattle.row_book.proofs.book.Book.check_clauses.Given as goal

abbrev pub invariant-loop-number : goal.invariant-loop-number
invariant-loop-number l =
    (p : ℕ) → p < l.number → Is (flag l.chosen) p → Satisfied (repository_of l.pool l.self) (Is (flag l.chosen)) p
