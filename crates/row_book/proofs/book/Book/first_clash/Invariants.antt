use Rattle.std.proofs.Common.{ℕ, ◌<◌}
use Rattle.row_book.specs.{Flags.{flag}, Health.{IsClash}}
use Rattle.row_book.proofs.book.Book.first_clash.Given as goal

abbrev pub invariant-loop-low : goal.invariant-loop-low
invariant-loop-low l = (m n : ℕ) → m < l.low → IsClash l.self.conflicts (flag l.chosen) m n → ⊥
