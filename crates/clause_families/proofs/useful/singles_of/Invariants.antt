use Rattle.std.proofs.Common.{ℕ, [], ◌∷◌}
use Rattle.clause_pool.specs.{Interned.{clauses_at}, Clauses.{apart_from}}
use Rattle.listed.specs.Lists.{In}
use Rattle.clause_families.proofs.useful.singles_of.Given as goal

abbrev pub invariant-loop-id : goal.invariant-loop-id
invariant-loop-id l = (n : ℕ) → In n l.singles.items → In (n ∷ []) (apart_from l.spent (clauses_at l.pool l.row))
