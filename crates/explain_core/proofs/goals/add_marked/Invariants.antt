use Rattle.std.proofs.Common.{◌≡◌, ◌++◌, take}
use Rattle.explain_core.specs.Picking.{picked}
use Rattle.explain_core.proofs.goals.add_marked.Given as goal

abbrev pub invariant-loop-mark : goal.invariant-loop-mark
invariant-loop-mark l = l.out ≡ l.initial.out ++ picked l.needs (take l.mark-index l.marks)
