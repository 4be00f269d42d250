use Rattle.std.proofs.Common.{◌≡◌, ℕ, ◌<◌, drop, length, map, take}
use Rattle.relation_fields.specs.Shared.{marked}
use Rattle.listed.specs.Lists.{In}
use Rattle.repo_model.specs.{Interning.{HasRows}, Needs.{needs_of_all}, Repository.{row_of}}
use Rattle.repo_model.proofs.rows.intern_rows.Given as goal

abbrev pub invariant-loop-facts : goal.invariant-loop-facts
invariant-loop-facts l = record {
  made : HasRows l.initial.pool l.pool (map (row_of l.home l.packages) (take l.facts-index l.packages)) l.rows.items;
  clauses : l.pool.clauses ≡ l.initial.pool.clauses;
  elements : marked l.fn.elements.distinct.items l.left ≡ needs_of_all (drop l.facts-index l.packages);
  within : (mark : ℕ) → In mark l.left → mark < length l.fn.elements.distinct.items;
}
