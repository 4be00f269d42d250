use Rattle.std.proofs.Common.{◌≡◌, take}
use Rattle.std.specs.List.{filter}
use Rattle.clause_pool.specs.Interned.{clause_at, clauses_at}
use Rattle.clause_families.specs.Inclusion.{stays}
use Rattle.clause_flatten.proofs.tidy_rows.kept_clauses.Given as goal

abbrev pub invariant-loop-id : goal.invariant-loop-id
invariant-loop-id l = l.kept.items ≡ filter (λ id. stays l.number (clauses_at l.pool l.row) (clause_at l.pool id)) (take l.id-index l.row)
