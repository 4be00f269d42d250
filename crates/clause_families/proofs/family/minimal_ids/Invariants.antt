use Rattle.std.proofs.Common.{take}
use Rattle.clause_families.specs.Families.{InternedSoFar}
use Rattle.clause_families.proofs.family.minimal_ids.Given as goal

abbrev pub invariant-loop-clause : goal.invariant-loop-clause
invariant-loop-clause l = InternedSoFar l.fn.pool l.pool l.family (take l.clause-index l.family) l.ids.items
