use Rattle.class_merge.proofs.Groups.{GroupsSoFar}
use Rattle.class_merge.proofs.grouping.classes_of.Given as goal

abbrev pub invariant-loop-number : goal.invariant-loop-number
invariant-loop-number l = GroupsSoFar l.masked l.seen l.firsts.items l.class_of.items l.number
