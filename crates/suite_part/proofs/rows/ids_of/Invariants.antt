use Rattle.std.proofs.Common.{take}
use Rattle.suite_part.proofs.Parted.{FirstInterned}
use Rattle.suite_part.proofs.rows.ids_of.Given as goal

abbrev pub invariant-loop-clause : goal.invariant-loop-clause
invariant-loop-clause l = FirstInterned l.fn.pool l.pool (take l.clause-index l.family) l.ids.items
