use Rattle.std.proofs.Common.{◌+◌, ◌-◌, length}
use Rattle.clause_families.proofs.Merged.{Merging}
use Rattle.clause_families.proofs.scratch.Clause.union_without.Given as goal

abbrev pub invariant-merge : goal.invariant-merge
invariant-merge l = Merging l.spent l.clause l.other l.literals.items l.i l.j

abbrev pub decreases-merge : goal.decreases-merge
decreases-merge l = (length l.initial.clause - l.i) + (length l.initial.other - l.j)
