use Rattle.std.proofs.Common.{◌≡◌, ℕ, ◌<◌, ◌||◌, length}
use Rattle.row_book.specs.Flags.{flag}
use Rattle.install_lift.proofs.lifting.union_of.Given as goal

abbrev pub invariant-loop-place : goal.invariant-loop-place
invariant-loop-place l = record {
  long : length l.made.items ≡ l.place;
  each : (n : ℕ) → n < l.place → flag l.made.items n ≡ (flag l.first n || flag l.second n);
}
