use Rattle.std.proofs.Common.{◌≡◌, take}
use Rattle.suite_compare.proofs.kinds.put_key.Given as goal

abbrev pub invariant-loop-class : goal.invariant-loop-class
invariant-loop-class l = l.key.items ≡ take l.class-index l.list
