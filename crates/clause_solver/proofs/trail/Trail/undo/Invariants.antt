use Rattle.std.proofs.Common.{◌≡◌, ◌≤◌, length, take}
use Rattle.clause_solver.specs.Marking.{IsMarked}
use Rattle.clause_solver.proofs.trail.Trail.undo.Given as goal

abbrev pub invariant-loop-self : goal.invariant-loop-self
invariant-loop-self l = record {
  is : IsMarked l.self-inside.classes l.self-inside.flags.items l.self-inside.literals.items;
  classes : l.self-inside.classes ≡ l.initial.self-inside.classes;
  front : l.self-inside.literals.items ≡ take (length l.self-inside.literals.items) l.initial.self-inside.literals.items;
  keep : l.keep ≤ length l.self-inside.literals.items;
}

abbrev pub decreases-loop-self : goal.decreases-loop-self
decreases-loop-self l = length l.self-inside.literals.items
