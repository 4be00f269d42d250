use Rattle.std.proofs.Common.{◌≡◌, ◌++◌, take}
use Rattle.clause_pool.specs.Interned.{clauses_at}
use Rattle.clause_families.specs.Families.{unions_of}
use Rattle.clause_families.proofs.family.add_unions_of.Given as goal

abbrev pub invariant-loop-other : goal.invariant-loop-other
invariant-loop-other l = l.family.items ≡ l.fn.family.items ++ unions_of l.spent (take l.other-index (clauses_at l.pool l.others)) l.clause
