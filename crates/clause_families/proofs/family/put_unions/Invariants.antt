use Rattle.std.proofs.Common.{take}
use Rattle.clause_pool.specs.{Interned.{clauses_at, Kept, OfPool}, Clauses.{apart_from}}
use Rattle.clause_families.specs.Families.{HasUnions}
use Rattle.clause_families.proofs.family.put_unions.Given as goal

abbrev pub invariant-loop-union : goal.invariant-loop-union
invariant-loop-union l = record {
  made : HasUnions (clauses_at l.fn.pool l.fn.ids.items) (apart_from l.spent (clauses_at l.fn.pool l.row)) l.unions (take l.union-index l.unions) (clauses_at l.pool l.ids.items);
  of_pool : OfPool l.pool l.ids.items;
  stay : Kept l.fn.pool l.pool;
}
