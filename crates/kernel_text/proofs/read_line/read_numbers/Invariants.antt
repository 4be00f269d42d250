use Rattle.std.specs.Option.{option_copied, option_map_or}
use Rattle.std.proofs.Common.{length, suc}
use Rattle.kernel_text.proofs.NumberWords.{NumbersSoFar}
use Rattle.kernel_text.proofs.read_line.read_numbers.Given as goal

abbrev pub invariant-loop-left : goal.invariant-loop-left
invariant-loop-left l = NumbersSoFar (option_copied l.fn.words) l.numbers (option_copied l.left)

abbrev pub decreases-loop-left : goal.decreases-loop-left
decreases-loop-left l = option_map_or (λ t. suc (length t)) (option_copied l.left) 0
