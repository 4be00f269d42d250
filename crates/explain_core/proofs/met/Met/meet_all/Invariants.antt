use Rattle.std.proofs.Common.{◌≡◌, take}
use Rattle.explain_core.specs.Meeting.{Meets}
use Rattle.explain_core.proofs.met.Met.meet_all.Given as goal

abbrev pub invariant-loop-number : goal.invariant-loop-number
invariant-loop-number l = record {
  size : l.self.0 ≡ l.initial.self.0;
  put : Meets l.initial.self.1 l.self.1 (take l.number-index l.clause);
}
