use Rattle.std.proofs.Common.{◌≡◌, true, take}
use Rattle.std.specs.Cmp.Lexicographic.{pointwise}
use Rattle.migrate_plan.specs.Differing.{is_same_atom}
use Rattle.migrate_plan.proofs.alike.are_same_atoms.Given as goal

abbrev pub invariant-loop-place : goal.invariant-loop-place
invariant-loop-place l = pointwise is_same_atom (take l.place l.one) (take l.place l.other) ≡ true
