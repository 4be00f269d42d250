use Rattle.std.proofs.Common.{◌≡◌, ◌++◌, take}
use Rattle.clause_pool.specs.Interned.{clauses_at}
use Rattle.clause_families.specs.Counting.{clauses_cut}
use Rattle.clause_families.proofs.splitting.add_holders.Given as goal

abbrev pub invariant-loop-id : goal.invariant-loop-id
invariant-loop-id l = l.family.items ≡ l.fn.family.items ++ clauses_cut l.number (take l.id-index (clauses_at l.pool l.row))
