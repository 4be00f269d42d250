use Rattle.std.proofs.Common.{◌≡◌, ◌++◌, take}
use Rattle.clause_pool.specs.Interned.{clauses_at}
use Rattle.clause_families.proofs.splitting.add_copies.Given as goal

abbrev pub invariant-loop-id : goal.invariant-loop-id
invariant-loop-id l = l.family.items ≡ l.fn.family.items ++ take l.id-index (clauses_at l.pool l.ids)
