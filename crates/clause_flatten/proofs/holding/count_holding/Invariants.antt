use Rattle.std.proofs.Common.{◌≡◌, ◌≤◌, length, take}
use Rattle.clause_pool.specs.Interned.{clauses_at}
use Rattle.clause_flatten.specs.Holding.{clauses_with}
use Rattle.clause_flatten.proofs.holding.count_holding.Given as goal

abbrev pub invariant-loop-id : goal.invariant-loop-id
invariant-loop-id l = record {
  is : l.count ≡ length (clauses_with l.number (take l.id-index (clauses_at l.pool l.row)));
  few : l.count ≤ l.id-index;
}
