use Rattle.std.proofs.Common.{length}
use Rattle.suite_compare.proofs.Chosen.{AreLeft}
use Rattle.suite_compare.proofs.class_set.ClassSet.clear.Given as goal

abbrev pub invariant-loop-class : goal.invariant-loop-class
invariant-loop-class l = AreLeft (length l.initial.self-inside.flags.items) l.self-inside.flags.items l.self-inside.members.items

abbrev pub decreases-loop-class : goal.decreases-loop-class
decreases-loop-class l = length l.self-inside.members.items
