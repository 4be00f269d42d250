use Rattle.std.proofs.Common.{◌≡◌, ltb, map}
use Rattle.row_book.specs.Numbers.{numbers}
use Rattle.suite_part.proofs.changed.first_chosen.Given as goal

abbrev pub invariant-loop-number : goal.invariant-loop-number
invariant-loop-number l = l.flags.items ≡ map (λ k. ltb k l.count) (numbers l.number 0)
