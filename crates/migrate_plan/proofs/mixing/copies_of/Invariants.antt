use Rattle.std.proofs.Common.{◌≡◌, take}
use Rattle.migrate_plan.proofs.mixing.copies_of.Given as goal

abbrev pub invariant-loop-name : goal.invariant-loop-name
invariant-loop-name l = l.made.items ≡ take l.name-index l.names
