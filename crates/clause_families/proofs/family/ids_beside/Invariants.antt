use Rattle.std.proofs.Common.{◌≡◌, filter, take}
use Rattle.clause_pool.specs.Interned.{clauses_at, OfPool}
use Rattle.clause_families.specs.Inclusion.{stays}
use Rattle.clause_families.proofs.family.ids_beside.Given as goal

abbrev pub invariant-loop-id : goal.invariant-loop-id
invariant-loop-id l = record {
  made : clauses_at l.pool l.ids.items ≡ filter (stays l.number l.unions) (take l.id-index (clauses_at l.pool l.row));
  of_pool : OfPool l.pool l.ids.items;
}
