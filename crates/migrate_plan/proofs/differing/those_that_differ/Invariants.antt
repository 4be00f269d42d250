use Rattle.std.proofs.Common.{◌≡◌, filter, take}
use Rattle.migrate_plan.specs.Differing.{differs}
use Rattle.migrate_plan.proofs.differing.those_that_differ.Given as goal

abbrev pub invariant-loop-name : goal.invariant-loop-name
invariant-loop-name l = l.made ≡ filter (differs l.old.packages l.new.packages) (take l.name-index l.names)
