use Rattle.std.{proofs.Common.{◌≡◌, ◌∙◌, ap, filter, get_or, length, map, sym, subst}, proofs.lemmas.List.{length-map}}
use Rattle.row_book.specs.Book.{listed_for}
use Rattle.suite_compare.specs.{Bearers.{filled_places}, Comparing.{new_verdict}, Names.{stands_in}, Sided.{AreVerdicts}}
use Rattle.suite_compare.proofs.Bearing.{images_at, lists_fit, lists_need, names_among, names_borne, places_within}
use Rattle.suite_compare.proofs.Named.{part_verdicts, part_within, verdicts_are}
use Rattle.suite_compare.proofs.sides.new_side_by.Goals as goal
use Rattle.suite_compare.proofs.sides.new_side_by.Goals.{In_ok-places}

-- the places at which a class stands
places_are : (c : In_ok-places) → c.in_ok-places.places.items ≡ filled_places c.args.classes.items
places_are c = c.in_ok-places.ensures ∙ ap filled_places c.deref.ensures.value

pub common_at-requires : goal.common_at-requires
common_at-requires c =
    places_within c.args.classes.items c.deref-2.result.now (length c.args.old.now.names) (c.deref-2.ensures.value ∙ places_are (goal.at.common_at-requires c).In_ok-places) c.requires.count

pub lists_at-requires : goal.lists_at-requires
lists_at-requires c =
    places_within c.args.classes.items c.deref-4.result.now (length c.deref-3.result.now) (c.deref-4.ensures.value ∙ places_are (goal.at.lists_at-requires c).In_ok-places) (sym (ap length c.deref-3.ensures.value))

pub side_by-requires-clause-needs : goal.side_by-requires-clause-needs
side_by-requires-clause-needs c =
    let places = c.deref-4.result.now in
    lists_need c.args.classes.items c.deref-5.result.now places (c.deref-4.ensures.value ∙ places_are (goal.at.side_by-requires-clause-needs c).In_ok-places)
    (c.deref-5.ensures.value ∙ c.in_ok-lists.ensures ∙ ap (λ z. map (listed_for z) places) c.deref-3.ensures.value) c.requires.fits.ascending

pub side_by-requires-clause-fit : goal.side_by-requires-clause-fit
side_by-requires-clause-fit c =
    let places = c.deref-4.result.now in
    lists_fit (length c.args.kernel.now.book.now.rows) c.args.classes.items c.deref-5.result.now places (c.deref-4.ensures.value ∙ places_are (goal.at.side_by-requires-clause-fit c).In_ok-places)
    (c.deref-5.ensures.value ∙ c.in_ok-lists.ensures ∙ ap (λ z. map (listed_for z) places) c.deref-3.ensures.value) c.requires.fits.within

pub invariant_of-result : goal.invariant_of-result
invariant_of-result c =
    let old = c.args.old.now in
    let common = c.in_ok-common.common in
    let places = c.deref-2.result.now in
    let are = places_are (goal.at.invariant_of-result c).In_ok-places in
    let count : length common.names.items ≡ length places = ap length c.in_ok-common.ensures.names ∙ length-map places (listed_for old.names) in
    let among = names_among old.names old.side.kind_of.items places common.names.items common.kind_of.items (places_within c.args.classes.items places (length old.names) (c.deref-2.ensures.value ∙ are) c.requires.count)
    c.in_ok-common.ensures.names c.in_ok-common.ensures.kinds in
    let lists : length c.deref-5.result.now ≡ length places =
    ap length (c.deref-5.ensures.value ∙ c.in_ok-lists.ensures) ∙ length-map c.deref-4.result.now (listed_for c.deref-3.result.now) ∙ ap length (c.deref-4.ensures.value ∙ sym c.deref-2.ensures.value) in
    record {
      long = c.in_ok-side.ensures.side_is.long ∙ lists ∙ sym count;
      old_long = ap length c.in_ok-common.ensures.kinds ∙ length-map places (λ place. get_or old.side.kind_of.items place 0) ∙ sym count;
      old_within = part_within old.names common.names.items common.kind_of.items old.side among old.long;
    }

pub returns : goal.returns
returns c = λ home stanzas is borne.
    let old = c.args.old.now in
    let view = old.view.now in
    let common = c.in_ok-common.common in
    let side = c.in_ok-side.side in
    let classes = c.args.classes.items in
    let places = c.deref-4.result.now in
    let are = places_are (goal.at.returns c).In_ok-places in
    let named = map (listed_for old.names) places in
    let same : named ≡ common.names.items = ap (map (listed_for old.names)) (c.deref-4.ensures.value ∙ sym c.deref-2.ensures.value) ∙ sym c.in_ok-common.ensures.names in
    let lists = c.deref-5.ensures.value ∙ c.in_ok-lists.ensures ∙ ap (λ z. map (listed_for z) places) c.deref-3.ensures.value
    ∙ images_at view.limit view.kernel.hold home stanzas old.names classes places borne (places_within classes places (length old.names) (c.deref-4.ensures.value ∙ are) c.requires.count) in
    let told : AreVerdicts side side.kind_of.items named (new_verdict old home stanzas) =
    verdicts_are view.limit view.kernel.hold home stanzas old.budget _ named c.deref-5.result.now side is lists c.in_ok-side.ensures in
    record {
      names_are = c.in_ok-common.ensures.names ∙ ap (map (listed_for old.names)) (c.deref-2.ensures.value ∙ are)
          ∙ names_borne view.limit view.kernel.hold home stanzas old.names classes borne ∙ ap (filter (stands_in stanzas)) old.names_are;
      are = record {
        old = part_verdicts old.names common.names.items old.side.kind_of.items common.kind_of.items old.side _
            (names_among old.names old.side.kind_of.items c.deref-2.result.now common.names.items common.kind_of.items (places_within classes c.deref-2.result.now (length old.names) (c.deref-2.ensures.value ∙ are) c.requires.count)
            c.in_ok-common.ensures.names c.in_ok-common.ensures.kinds) old.was;
        new = subst (λ z. AreVerdicts side side.kind_of.items z (new_verdict old home stanzas)) same told;
      };
    }
