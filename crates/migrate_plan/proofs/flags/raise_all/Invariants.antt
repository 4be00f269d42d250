use Rattle.std.proofs.Common.{take}
use Rattle.migrate_plan.specs.Flagged.{Raises}
use Rattle.migrate_plan.proofs.flags.raise_all.Given as goal

abbrev pub invariant-loop-number : goal.invariant-loop-number
invariant-loop-number l = Raises l.fn.flags.items (take l.number-index l.numbers) l.flags.items
