use Rattle.std.proofs.Common.{◌≡◌, ◌<◌, ◌≤◌, ◌+◌, ◌-◌, ◌*◌}
use Rattle.std.specs.Prelude.{All}
use Rattle.search_terms.specs.Marks.{classes_left}
use Rattle.clause_solver.specs.{Engine.{sentences_in}, Levels.{IsAt}, Standing.{WalksIn}, Starts.{AreStarts, IsStart}}
use Rattle.clause_solver.proofs.tree_walk.walk.Given as goal

abbrev pub invariant-loop-contradiction : goal.invariant-loop-contradiction
invariant-loop-contradiction l = record {
  classes : l.trail.0 ≡ l.formula.classes;
  range : All (λ k. k.class < l.formula.classes) l.decisions.literals.items;
  walks : WalksIn l.keeps l.formula.classes (sentences_in l.formula) l.decisions.literals.items l.failed l.log;
  within : l.failed ≤ l.budget;
  starts : AreStarts l.formula.own.now l.decisions.levels.items l.decisions.starts.items l.trail.1;
  start : IsStart l.formula.own.now l.trail.1 l.decisions.start;
  at : IsAt l.contradiction (sentences_in l.formula) l.decisions.literals.items l.decisions.levels.items l.trail.1;
}

abbrev pub decreases-loop-contradiction : goal.decreases-loop-contradiction
decreases-loop-contradiction l = (l.budget + 1 - l.failed) * (l.formula.classes + 1) + classes_left l.formula.classes l.decisions.literals.items
