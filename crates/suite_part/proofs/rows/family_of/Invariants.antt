use Rattle.std.proofs.Common.{◌≡◌, take}
use Rattle.clause_pool.specs.Interned.{clauses_at}
use Rattle.suite_part.proofs.rows.family_of.Given as goal

abbrev pub invariant-loop-id : goal.invariant-loop-id
invariant-loop-id l = l.family.items ≡ clauses_at l.pool (take l.id-index l.ids)
