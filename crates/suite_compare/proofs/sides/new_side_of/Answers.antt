use Rattle.std.{proofs.Common.{◌≡◌, ◌∙◌, List, ℕ, ap, length, refl, sym}, proofs.lemmas.List.{length-map}}
use Rattle.repo_model.specs.Goals.{any_version}
use Rattle.suite_compare.specs.{Asking.{image_of}, Bearers.{bearer_classes}}
use Rattle.suite_compare.proofs.Bearing.{bearers_each, bearers_known, classes_fit}
use Rattle.suite_compare.proofs.sides.new_side_of.Goals as goal
use Rattle.suite_compare.proofs.sides.new_side_of.Goals.{In_ok-classes}

-- the classes of the names
classes_are : (c : In_ok-classes) → c.in_ok-classes.classes.items ≡ bearer_classes c.args.new.now.limit c.args.new.now.kernel.hold c.args.new.now.suite.home c.args.new.now.suite.packages c.names.result.now
classes_are c =
    let view = c.args.new.now in
    bearers_each view.limit view.kernel.hold view.suite.home view.suite.packages c.as_slice.result.now (c.as_slice.ensures ∙ view.of_suite.kernel_is.class_of) c.names.result.now c.deref.result.now c.in_ok-classes.classes.items
    (c.deref.ensures.value ∙ c.in_ok-named.ensures) c.in_ok-classes.ensures

pub classes_of_each-requires : goal.classes_of_each-requires
classes_of_each-requires c =
    let view = c.args.new.now in
    bearers_known view.limit view.kernel.hold view.suite.home view.suite.packages c.as_slice.result.now (c.as_slice.ensures ∙ view.of_suite.kernel_is.class_of) c.names.result.now c.deref.result.now (c.deref.ensures.value ∙ c.in_ok-named.ensures)

pub new_side_by-requires-clause-fits : goal.new_side_by-requires-clause-fits
new_side_by-requires-clause-fits c =
    let view = c.args.new.now in
    classes_fit view.limit view.kernel.hold view.suite.home view.suite.packages _ c.names.result.now c.in_ok-classes.classes.items c.kernel_of-kernel.ensures (classes_are (goal.at.new_side_by-requires-clause-fits c).In_ok-classes)

pub new_side_by-requires-clause-count : goal.new_side_by-requires-clause-count
new_side_by-requires-clause-count c =
    let view = c.args.new.now in
    let image : List ℕ → List ℕ = λ name. image_of view.limit view.kernel.hold view.suite.home view.suite.packages (any_version name) in
    ap length (classes_are (goal.at.new_side_by-requires-clause-count c).In_ok-classes) ∙ length-map c.names.result.now image ∙ ap length c.names.ensures

pub returns : goal.returns
returns c =
    let new = c.args.new.now in
    c.in_ok-made.ensures new.suite.home new.suite.packages (rw (sym c.requires.limit, sym c.requires.hold) c.kernel_of-kernel.ensures)
    (classes_are (goal.at.returns c).In_ok-classes ∙ rw (c.requires.limit, c.requires.hold, c.names.ensures) refl)
