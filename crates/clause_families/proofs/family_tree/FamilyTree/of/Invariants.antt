use Rattle.std.proofs.Common.{drop}
use Rattle.clause_families.specs.Branches.{BuiltOf}
use Rattle.clause_families.proofs.family_tree.FamilyTree.of.Given as goal

abbrev pub invariant-loop-place : goal.invariant-loop-place
invariant-loop-place l = BuiltOf l.tree (drop l.place l.family)
