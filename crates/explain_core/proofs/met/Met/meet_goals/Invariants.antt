use Rattle.std.proofs.Common.{◌≡◌, take}
use Rattle.std.specs.List.{concat}
use Rattle.explain_core.specs.Meeting.{Meets}
use Rattle.explain_core.proofs.met.Met.meet_goals.Given as goal

abbrev pub invariant-loop-place : goal.invariant-loop-place
invariant-loop-place l = record {
  size : l.self.0 ≡ l.initial.self.0;
  put : Meets l.initial.self.1 l.self.1 (concat (take l.place l.goals));
}
