use Rattle.kernel_text.specs.Writing.{IsByClass}
use Rattle.kernel_text.proofs.classify.packages_by_class.Given as goal

abbrev pub invariant-loop-number : goal.invariant-loop-number
invariant-loop-number l = IsByClass l.class_of l.number l.size l.table.items
