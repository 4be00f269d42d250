use Rattle.std.proofs.Common.{◌≡◌, take}
use Rattle.clause_pool.specs.{Interned.{clauses_at}, Clauses.{apart_from}}
use Rattle.clause_families.proofs.family.clauses_without.Given as goal

abbrev pub invariant-loop-id : goal.invariant-loop-id
invariant-loop-id l = l.family.items ≡ apart_from l.number (take l.id-index (clauses_at l.pool l.row))
