use Rattle.std.proofs.Common.{◌≡◌, ◌≤◌, ℕ, List, filter, length, take}
use Rattle.clause_families.specs.{Branches.{TreeOf}, Counting.{is_new}}
use Rattle.clause_families.proofs.counting.count_new.Given as goal

abbrev pub invariant-loop-union : goal.invariant-loop-union
invariant-loop-union l = record {
  is : (rest : List (List ℕ)) → TreeOf l.later rest → l.count
      ≡ length (filter (is_new l.parts.kept.clauses.items l.parts.first.clauses.items l.parts.second.clauses.items rest) (take l.union-index l.unions));
  few : l.count ≤ l.union-index;
}
