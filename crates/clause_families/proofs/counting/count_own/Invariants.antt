use Rattle.std.proofs.Common.{◌≡◌, ◌≤◌, take}
use Rattle.clause_families.specs.Counting.{own_count}
use Rattle.clause_families.proofs.counting.count_own.Given as goal

abbrev pub invariant-loop-clause : goal.invariant-loop-clause
invariant-loop-clause l = record {
  is : l.count ≡ own_count (take l.clause-index l.kept) l.parts.first.clauses.items l.parts.second.clauses.items;
  few : l.count ≤ l.clause-index;
}
