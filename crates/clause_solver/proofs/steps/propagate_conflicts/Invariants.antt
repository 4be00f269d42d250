use Rattle.std.proofs.Common.{◌≡◌, true, false, take}
use Rattle.std.specs.Prelude.{All, map}
use Rattle.search_terms.specs.{Closure.{literal}, Form.{conflict_sentence}}
use Rattle.clause_solver.specs.{Marking.{set_of_trail}, Running.{Runs}}
use Rattle.clause_solver.proofs.steps.propagate_conflicts.Given as goal

abbrev pub invariant-loop-q : goal.invariant-loop-q
invariant-loop-q l = record {
  classes : l.trail.0 ≡ l.initial.trail.0;
  runs : Runs (map (conflict_sentence l.class) l.others) l.initial.trail.1 l.trail.1;
  excluded : All (λ q. set_of_trail l.trail.1 (literal q false) ≡ true) (take l.q-index l.others);
}
