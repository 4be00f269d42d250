use Rattle.std.proofs.Common.{◌≡◌, ◌++◌, ℕ, ◌<◌, drop, length}
use Rattle.std.specs.List.{items_where_true}
use Rattle.relation_fields.specs.{Elements.{elements_of}, Shared.{marked}}
use Rattle.listed.specs.Lists.{In}
use Rattle.repo_model.specs.{Needs.{needs_of_all}, Select.{AreRenamed}}
use Rattle.repo_model.proofs.select.flagged_elements.Given as goal

abbrev pub invariant-loop-place : goal.invariant-loop-place
invariant-loop-place l = record {
  made : elements_of l.made ++ needs_of_all (items_where_true (drop l.place l.flags) (drop l.place l.packages)) ≡ needs_of_all (items_where_true l.flags l.packages);
  left : marked l.distinct l.left ≡ needs_of_all (drop l.place l.packages);
  within : (mark : ℕ) → In mark l.left → mark < length l.distinct;
  renamed : AreRenamed l.distinct l.places.items l.made.distinct.items;
}
