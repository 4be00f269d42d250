use Rattle.std.proofs.Common.{◌≡◌, ℕ, ◌<◌, length}
use Rattle.row_book.specs.Flags.{flag}
use Rattle.install_lift.proofs.lifting.front_of.Given as goal

abbrev pub invariant-loop-number : goal.invariant-loop-number
invariant-loop-number l = record {
  long : length l.made.items ≡ l.number;
  each : (n : ℕ) → n < l.number → flag l.made.items n ≡ flag l.flags n;
}
