use Rattle.std.proofs.Common.{◌≡◌}
use Rattle.suite_compare.proofs.choose.put_firsts.Given as goal

abbrev pub invariant-loop-id : goal.invariant-loop-id
invariant-loop-id l = l.chosen.0 ≡ l.initial.chosen.0
