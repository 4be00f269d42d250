use Rattle.std.proofs.Common.{◌≡◌, map}
use Rattle.row_book.specs.Numbers.{numbers}
use Rattle.conflict_reduce.specs.Tests.{left_for}
use Rattle.conflict_reduce.proofs.thinning.left_lists.Given as goal

abbrev pub invariant-loop-number : goal.invariant-loop-number
invariant-loop-number l = l.made.items ≡ map (left_for l.table l.gone) (numbers l.number 0)
