use Rattle.std.{proofs.Common.{◌≡◌, ◌∙◌, List, ℕ, ap, length}, proofs.lemmas.List.{length-map}, proofs.lemmas.Result.{IfOk-weaker}}
use Rattle.repo_model.specs.Goals.{any_version}
use Rattle.suite_compare.specs.{Asking.{image_of}, Bearers.{bearer_classes}}
use Rattle.suite_compare.proofs.{Bearing.{all_need, bearers_each, bearers_known, images_fit}, Named.{verdicts_are}}
use Rattle.suite_compare.proofs.sides.side_of.Goals as goal
use Rattle.suite_compare.proofs.sides.side_of.Goals.{In_ok-classes}

-- the classes of the names
classes_are : (c : In_ok-classes) → c.in_ok-classes.classes.items ≡ bearer_classes c.args.view.now.limit c.args.view.now.kernel.hold c.args.view.now.suite.home c.args.view.now.suite.packages c.args.names.now
classes_are c =
    let view = c.args.view.now in
    bearers_each view.limit view.kernel.hold view.suite.home view.suite.packages c.as_slice.result.now (c.as_slice.ensures ∙ view.of_suite.kernel_is.class_of) c.args.names.now c.deref.result.now c.in_ok-classes.classes.items
    (c.deref.ensures.value ∙ c.in_ok-named.ensures) c.in_ok-classes.ensures

pub classes_of_each-requires : goal.classes_of_each-requires
classes_of_each-requires c =
    let view = c.args.view.now in
    bearers_known view.limit view.kernel.hold view.suite.home view.suite.packages c.as_slice.result.now (c.as_slice.ensures ∙ view.of_suite.kernel_is.class_of) c.args.names.now c.deref.result.now (c.deref.ensures.value ∙ c.in_ok-named.ensures)

pub side_by-requires-clause-needs : goal.side_by-requires-clause-needs
side_by-requires-clause-needs c =
    let view = c.args.view.now in
    all_need view.limit view.kernel.hold view.suite.home view.suite.packages c.args.names.now c.deref-2.result.now (c.deref-2.ensures.value ∙ classes_are (goal.at.side_by-requires-clause-needs c).In_ok-classes) c.requires.names

pub side_by-requires-clause-fit : goal.side_by-requires-clause-fit
side_by-requires-clause-fit c =
    let view = c.args.view.now in
    images_fit view.limit view.kernel.hold view.suite.home view.suite.packages c.kernel_of-kernel.result c.args.names.now c.deref-2.result.now c.kernel_of-kernel.ensures
    (c.deref-2.ensures.value ∙ classes_are (goal.at.side_by-requires-clause-fit c).In_ok-classes)

pub returns-clause-long : goal.returns-clause-long
returns-clause-long c =
    let view = c.args.view.now in
    let image : List ℕ → List ℕ = λ name. image_of view.limit view.kernel.hold view.suite.home view.suite.packages (any_version name) in
    let count : length c.deref-2.result.now ≡ length c.args.names.now = ap length (c.deref-2.ensures.value ∙ classes_are (goal.at.returns-clause-long c).In_ok-classes) ∙ length-map c.args.names.now image in
    IfOk-weaker c.side_by.result _ _ (λ side is. is.side_is.long ∙ count) c.side_by.ensures

pub returns-clause-verdicts : goal.returns-clause-verdicts
returns-clause-verdicts c =
    let view = c.args.view.now in
    IfOk-weaker c.side_by.result _ _ (λ side is.
    verdicts_are view.limit view.kernel.hold view.suite.home view.suite.packages c.args.budget _ c.args.names.now c.deref-2.result.now side c.kernel_of-kernel.ensures
    (c.deref-2.ensures.value ∙ classes_are (goal.at.returns-clause-verdicts c).In_ok-classes) is) c.side_by.ensures
