use Rattle.std.proofs.Common.{◌≡◌, ◌∙◌, ◌++◌, ◌<◌, ap, ap₂, drop, length, subst, sym, take, arith}
use Rattle.std.specs.List.{items_where_true}
use Rattle.listed.proofs.Lists.{in_take, In_drop}
use Rattle.relation_fields.specs.{Elements.{elements_of}, Shared.{marked}, declared.packages.PackageFacts.{PackageFacts}}
use Rattle.listed.specs.Lists.{In}
use Rattle.row_book.proofs.Users.{lent_whole}
use Rattle.repo_model.specs.{Needs.{needs_of_all}, Select.{AreRenamed}}
use Rattle.repo_model.proofs.{Marked.{marks_within, own_fits, own_marked, rest_marked}, Selected.{needs_all, needs_left_out, needs_next, renamed_none}}
use Rattle.repo_model.proofs.select.flagged_elements.Goals as goal

pub loop-place-init : goal.loop-place-init
loop-place-init c =
    let all = c.args.elements.now in
    record {
      made = ap (λ made. made ++ needs_of_all (items_where_true c.args.flags.now c.args.packages.now)) c.new-made.ensures.elements;
      left = ap₂ marked c.as_slice-distinct.ensures.value c.as_slice-left.ensures.value ∙ c.requires.elements;
      within = λ mark i.
          subst (λ lists. mark < length lists) (sym c.as_slice-distinct.ensures.value)
          (marks_within all.distinct.items all.marks.items all.marked mark (subst (λ marks. In mark marks) c.as_slice-left.ensures.value i));
      renamed = renamed_none c.as_slice-distinct.result.now c.new-made.result.distinct.items c.in_ok-places.places.items c.in_ok-places.ensures.size c.in_ok-places.ensures.none;
    }

pub split_at-requires : goal.split_at-requires
split_at-requires c =
    let count = ap length c.as_slice.ensures in
    let fits =
    own_fits (λ (s : PackageFacts). s.needs) c.args.packages.now c.loop-place.place c.index-packages-place.result c.as_slice-distinct.result.now c.loop-place.left.now c.loop-place-test.true c.index-packages-place.is
    c.loop-place.invariant.left in
    omega (arith, count, fits)

pub add_elements-requires-clause-marks : goal.add_elements-requires-clause-marks
add_elements-requires-clause-marks c = λ mark i.
    c.loop-place.invariant.within mark (in_take c.loop-place.left.now (length c.as_slice.result.now) mark (subst (λ marks. In mark marks) c.split_at.ensures.front i))

pub loop-place-preserved : goal.loop-place-preserved
loop-place-preserved c =
    let flags = c.args.flags.now in
    let packages = c.args.packages.now in
    let distinct = c.as_slice-distinct.result.now in
    let place = c.loop-place.place in
    let facts = c.index-packages-place.result in
    let left = c.loop-place.left.now in
    let inv = c.loop-place.invariant in
    let needs = λ (s : PackageFacts). s.needs in
    let mine = ap (marked distinct) (c.split_at.ensures.front ∙ ap (λ xs. take (length xs) left) c.as_slice.ensures)
    ∙ own_marked needs packages place facts distinct left c.loop-place-test.true c.index-packages-place.is inv.left in
    let lists = c.loop-place.places in
    let new = c.add_elements.new.places in
    let size : length new ≡ length lists.items = c.in_ok-add_elements.ensures.renamed.sized ∙ sym inv.renamed.sized in
    let whole : take lists.len (new ++ drop (length new) lists.items) ≡ new = lent_whole lists.len new lists.items size lists.ok.0 in
    record {
      made = needs_next flags packages place facts c.requires.flags c.loop-place-test.true c.index-packages-place.is needs (elements_of c.loop-place.made) (elements_of c.add_elements.new.made)
          (needs_of_all (items_where_true flags packages)) (marked distinct c.split_at.result.0.now) c.if-not-are_chosen.false inv.made c.in_ok-add_elements.ensures.elements mine;
      left = ap (marked distinct) (c.split_at.ensures.back ∙ ap (λ xs. drop (length xs) left) c.as_slice.ensures)
          ∙ rest_marked needs packages place facts distinct left c.loop-place-test.true c.index-packages-place.is inv.left;
      within = λ mark i. inv.within mark (In_drop (length c.as_slice.result.now) left mark (subst (λ marks. In mark marks) c.split_at.ensures.back i));
      renamed = subst (λ xs. AreRenamed distinct xs c.add_elements.new.made.distinct.items) (sym whole) c.in_ok-add_elements.ensures.renamed;
    }

pub loop-place-preserved-then-not-are_chosen : goal.loop-place-preserved-then-not-are_chosen
loop-place-preserved-then-not-are_chosen c =
    let flags = c.args.flags.now in
    let packages = c.args.packages.now in
    let distinct = c.as_slice-distinct.result.now in
    let place = c.loop-place.place in
    let facts = c.index-packages-place.result in
    let left = c.loop-place.left.now in
    let inv = c.loop-place.invariant in
    let needs = λ (s : PackageFacts). s.needs in record {
      made = needs_left_out flags packages place facts c.requires.flags c.loop-place-test.true c.index-packages-place.is needs (elements_of c.loop-place.made) (needs_of_all (items_where_true flags packages))
          c.if-not-are_chosen.true inv.made;
      left = ap (marked distinct) (c.split_at.ensures.back ∙ ap (λ xs. drop (length xs) left) c.as_slice.ensures)
          ∙ rest_marked needs packages place facts distinct left c.loop-place-test.true c.index-packages-place.is inv.left;
      within = λ mark i. inv.within mark (In_drop (length c.as_slice.result.now) left mark (subst (λ marks. In mark marks) c.split_at.ensures.back i));
      renamed = inv.renamed;
    }

pub returns : goal.returns
returns c =
    needs_all c.args.flags.now c.args.packages.now c.loop-place.place c.requires.flags (omega (arith, c.loop-place-test.false)) (λ (s : PackageFacts). s.needs) (elements_of c.loop-place.made)
    (needs_of_all (items_where_true c.args.flags.now c.args.packages.now)) c.loop-place.invariant.made
