use Rattle.std.proofs.Common.{◌≡◌, length, take, slice_index_or, []}
use Rattle.std.specs.Prelude.{All}
use Rattle.clause_solver.specs.Running.{Runs, Waits}
use Rattle.clause_solver.proofs.steps.propagate_row.Given as goal

abbrev pub invariant-loop-entry : goal.invariant-loop-entry
invariant-loop-entry l = record {
  classes : l.trail.0 ≡ l.initial.trail.0;
  runs : Runs l.sentences l.initial.trail.1 l.trail.1;
  waits : All (λ u. Waits (length l.initial.trail.1) l.trail.1 (slice_index_or l.sentences u.sentence [])) (take l.entry-index l.row);
}
