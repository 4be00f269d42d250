use Rattle.std.proofs.Common.{◌≡◌, ◌-◌, ◌*◌}
use Rattle.std.specs.Prelude.{All}
use Rattle.clause_solver.specs.{Running.{Runs, Waits}, Engine.{sentences_in}}
use Rattle.clause_solver.proofs.propagation.propagate.Given as goal

abbrev pub invariant-loop-next : goal.invariant-loop-next
invariant-loop-next l = record {
  classes : l.trail.0 ≡ l.initial.trail.0;
  runs : Runs (sentences_in l.formula) l.initial.trail.1 l.trail.1;
  waits : All (Waits l.next l.trail.1) (sentences_in l.formula);
}

abbrev pub decreases-loop-next : goal.decreases-loop-next
decreases-loop-next l = l.trail.0 * 2 - l.next
