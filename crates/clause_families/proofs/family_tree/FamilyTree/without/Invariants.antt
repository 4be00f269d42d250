use Rattle.std.proofs.Common.{drop}
use Rattle.clause_pool.specs.{Interned.{clauses_at}, Clauses.{apart_from}}
use Rattle.clause_families.specs.Branches.{BuiltOf}
use Rattle.clause_families.proofs.family_tree.FamilyTree.without.Given as goal

abbrev pub invariant-loop-place : goal.invariant-loop-place
invariant-loop-place l = BuiltOf l.tree (apart_from l.number (drop l.place (clauses_at l.pool l.row)))
