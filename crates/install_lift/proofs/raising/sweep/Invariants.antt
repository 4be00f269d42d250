use Rattle.std.proofs.Common.{◌≡◌, length}
use Rattle.row_book.specs.{Book.{repository_of}, Flags.{flag}}
use Rattle.install_lift.specs.Raising.{IsLowering}
use Rattle.install_lift.proofs.raising.sweep.Given as goal

abbrev pub invariant-loop-number : goal.invariant-loop-number
invariant-loop-number l = record {
  long : length l.more ≡ length l.book.rows;
  lowering : IsLowering (repository_of l.pool l.book) (flag l.set) (flag l.more) l.number l.table l.work.items;
}
