use Rattle.std.proofs.Common.{◌≡◌, take}
use Rattle.std.specs.List.{concat}
use Rattle.clause_pool.specs.Interned.{clauses_at}
use Rattle.explain_core.specs.Meeting.{Meets}
use Rattle.explain_core.proofs.met.Met.meet_row.Given as goal

abbrev pub invariant-loop-id : goal.invariant-loop-id
invariant-loop-id l = record {
  size : l.self.0 ≡ l.initial.self.0;
  put : Meets l.initial.self.1 l.self.1 (concat (clauses_at l.pool (take l.id-index l.row)));
}
