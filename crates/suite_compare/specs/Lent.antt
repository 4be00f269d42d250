-- Kernels that are lent to comparisons.
use Rattle.std.specs.Prelude.{◌≡◌, ℕ, Bool}
use Rattle.row_book.specs.{Lent.{repository_in}, Repository.{Repository}, Rounds.{kernel}}
use Rattle.row_book.specs.declared.lent_book.LentBook.{LentBook}

-- a kernel is that of a repository at this limit, with hold or without
abbrev pub IsLentKernel : LentBook → ℕ → Bool → Repository → Type 0
IsLentKernel lent limit hold R = repository_in lent ≡ kernel limit hold R
