use Rattle.std.proofs.Common.{take}
use Rattle.migrate_plan.proofs.Flagged.{AreTaken}
use Rattle.migrate_plan.proofs.flags.taken_flags.Given as goal

abbrev pub invariant-loop-name : goal.invariant-loop-name
invariant-loop-name l = AreTaken l.suite.packages (take l.name-index l.taken) l.flags.items
