use Rattle.std.proofs.Common.{◌≡◌, ◌≤◌, drop, length}
use Rattle.clause_families.specs.{Branches.{BuiltOf}, Counting.{slices}}
use Rattle.clause_families.proofs.counting.count_backwards.Given as goal

abbrev pub invariant-loop-place : goal.invariant-loop-place
invariant-loop-place l = record {
  count : l.count ≡ slices l.parts.kept.clauses.items l.parts.first.clauses.items l.parts.second.clauses.items (drop l.place l.parts.first.clauses.items);
  later : BuiltOf l.later (drop l.place l.parts.first.clauses.items);
  within : l.place ≤ length l.parts.first.clauses.items;
}
