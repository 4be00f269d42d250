use Rattle.std.proofs.Common.{◌∙◌, ◌++◌, ◌<◌, ap, ap₂, length, subst, sym}
use Rattle.listed.specs.Lists.{In}
use Rattle.relation_fields.specs.{Elements.{elements_of}, Shared.{marked}}
use Rattle.repo_model.specs.Select.{AreRenamed}
use Rattle.repo_model.proofs.{Marked.{marks_within}, Selected.{renamed_none}}
use Rattle.repo_model.proofs.select.put_elements.Goals as goal

pub add_elements-requires-clause-marks : goal.add_elements-requires-clause-marks
add_elements-requires-clause-marks c = λ mark i.
    let all = c.args.others.now in
    subst (λ lists. mark < length lists) (sym c.as_slice-distinct.ensures.value)
    (marks_within all.distinct.items all.marks.items all.marked mark (subst (λ marks. In mark marks) c.as_slice.ensures.value i))

pub add_elements-requires-clause-renamed : goal.add_elements-requires-clause-renamed
add_elements-requires-clause-renamed c =
    subst (λ xs. AreRenamed c.as_slice-distinct.result.now xs c.args.made.now.distinct.items) (sym c.deref_mut.ensures.value)
    (renamed_none c.as_slice-distinct.result.now c.args.made.now.distinct.items c.in_ok-places.places.items c.in_ok-places.ensures.size c.in_ok-places.ensures.none)

pub returns : goal.returns
returns c = c.in_ok-add_elements.ensures.elements ∙ ap (λ more. elements_of c.args.made.now ++ more) (ap₂ marked c.as_slice-distinct.ensures.value c.as_slice.ensures.value)
