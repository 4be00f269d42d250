use Rattle.std.proofs.Common.{◌≡◌, length, take}
use Rattle.std.specs.Prelude.{All}
use Rattle.clause_solver.specs.Running.{Runs, Waits}
use Rattle.clause_solver.proofs.steps.propagate_all.Given as goal

abbrev pub invariant-loop-sentence : goal.invariant-loop-sentence
invariant-loop-sentence l = record {
  classes : l.trail.0 ≡ l.initial.trail.0;
  runs : Runs l.sentences l.initial.trail.1 l.trail.1;
  waits : All (Waits (length l.initial.trail.1) l.trail.1) (take l.sentence-index l.sentences);
}
