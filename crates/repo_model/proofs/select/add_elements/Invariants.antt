use Rattle.std.proofs.Common.{◌≡◌, ◌++◌, take}
use Rattle.relation_fields.specs.{Elements.{elements_of}, Shared.{marked}}
use Rattle.repo_model.specs.Select.{AreRenamed}
use Rattle.repo_model.proofs.select.add_elements.Given as goal

abbrev pub invariant-loop-mark : goal.invariant-loop-mark
invariant-loop-mark l = record {
  elements : elements_of l.made ≡ elements_of l.initial.made ++ marked l.distinct (take l.mark-index l.marks);
  renamed : AreRenamed l.distinct l.places l.made.distinct.items;
}
