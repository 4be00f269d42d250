use Rattle.std.proofs.Common.{◌≡◌, ◌++◌, take}
use Rattle.clause_pool.specs.Interned.{clauses_at}
use Rattle.clause_families.specs.Families.{all_unions}
use Rattle.clause_families.proofs.family.add_unions.Given as goal

abbrev pub invariant-loop-id : goal.invariant-loop-id
invariant-loop-id l = l.family.items ≡ l.fn.family.items ++ all_unions l.spent (take l.id-index (clauses_at l.pool l.row)) (clauses_at l.pool l.others)
