use Rattle.std.proofs.Common.{◌≡◌}
use Rattle.row_book.specs.Numbers.{numbers}
use Rattle.kernel_rounds.proofs.advancing.own_classes.Given as goal

abbrev pub invariant-loop-number : goal.invariant-loop-number
invariant-loop-number l = l.made.items ≡ numbers l.number 0
