use Rattle.std.proofs.Common.{◌≡◌, map, take, get_or}
use Rattle.suite_compare.proofs.ask.each_class.Given as goal

abbrev pub invariant-loop-number : goal.invariant-loop-number
invariant-loop-number l = l.classes.items ≡ map (λ n. get_or l.class_of n 0) (take l.number-index l.chosen)
