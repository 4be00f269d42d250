use Rattle.std.proofs.Common.{take}
use Rattle.clause_pool.specs.{Interned.{clauses_at}, Clauses.{apart_from}}
use Rattle.clause_families.specs.Families.{IncludesOneOf, Useful}
use Rattle.clause_families.proofs.useful.fresh_of.Given as goal

abbrev pub invariant-loop-id : goal.invariant-loop-id
invariant-loop-id l = Useful l.pool l.user (IncludesOneOf (apart_from l.spent (clauses_at l.pool l.row))) (take l.id-index l.others) l.fresh.items
