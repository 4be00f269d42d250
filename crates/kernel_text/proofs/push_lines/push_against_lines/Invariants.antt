use Rattle.std.proofs.Common.{◌≡◌, ◌++◌, take, filter, ltb}
use Rattle.kernel_text.specs.{KernelLines.{AgainstLine}, Writing.{lines_text}}
use Rattle.kernel_text.proofs.push_lines.push_against_lines.Given as goal

abbrev pub invariant-loop-class : goal.invariant-loop-class
invariant-loop-class l = l.out.items ≡ l.fn.out.items ++ lines_text AgainstLine (filter (λ m. ltb l.number m) (take l.class-index l.conflicts))
