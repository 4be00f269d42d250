use Rattle.std.proofs.Common.{◌≡◌, map, take}
use Rattle.class_merge.specs.Classes.{class_in}
use Rattle.kernel_rounds.proofs.advancing.compose.Given as goal

abbrev pub invariant-loop-class : goal.invariant-loop-class
invariant-loop-class l = l.made.items ≡ map (class_in l.next) (take l.class-index l.class_of)
