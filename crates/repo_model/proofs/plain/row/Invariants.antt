use Rattle.std.proofs.Common.{◌≡◌, ◌≤◌, length, drop, map}
use Rattle.repo_model.specs.Repository.{clause_of}
use Rattle.clause_pool.specs.Clauses.{in_row_order}
use Rattle.repo_model.proofs.plain.row.Given as goal

abbrev pub invariant-loop-left : goal.invariant-loop-left
invariant-loop-left l = record {
  within : l.left ≤ length l.elements;
  made : l.row.items ≡ in_row_order (map (clause_of l.home l.stanzas) (drop l.left l.elements));
}

abbrev pub decreases-loop-left : goal.decreases-loop-left
decreases-loop-left l = l.left
