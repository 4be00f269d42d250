use Rattle.std.proofs.Common.{take}
use Rattle.suite_compare.specs.Suspects.{AreHeld}
use Rattle.suite_compare.proofs.suspect.enter_each.Given as goal

abbrev pub invariant-loop-class : goal.invariant-loop-class
invariant-loop-class l = AreHeld l.initial.table l.table (take l.class-index l.classes) l.kind
