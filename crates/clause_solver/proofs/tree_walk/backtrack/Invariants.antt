use Rattle.std.proofs.Common.{◌≡◌, ◌<◌, length}
use Rattle.std.specs.Prelude.{All}
use Rattle.clause_solver.specs.{Engine.{sentences_in}, Levels.{IsFallen}, Standing.{WalksPast}, Starts.{AreStarts}}
use Rattle.clause_solver.proofs.tree_walk.backtrack.Given as goal

abbrev pub invariant-loop-l : goal.invariant-loop-l
invariant-loop-l l = record {
  classes : l.trail.0 ≡ l.initial.trail.0;
  range : All (λ k. k.class < l.formula.classes) l.decisions.literals.items;
  past : WalksPast l.keeps l.formula.classes (sentences_in l.formula) l.decisions.literals.items l.failed l.log;
  starts : AreStarts l.formula.own.now l.decisions.levels.items l.decisions.starts.items l.trail.1;
  fallen : IsFallen (sentences_in l.formula) l.decisions.literals.items l.decisions.levels.items l.trail.1;
}

abbrev pub decreases-loop-l : goal.decreases-loop-l
decreases-loop-l l = length l.decisions.literals.items
