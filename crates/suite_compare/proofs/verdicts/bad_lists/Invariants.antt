use Rattle.suite_compare.specs.Bad.{AreAllBadTo}
use Rattle.suite_compare.proofs.verdicts.bad_lists.Given as goal

abbrev pub invariant-loop-kind : goal.invariant-loop-kind
invariant-loop-kind l = AreAllBadTo l.judge l.lists.items l.kind
