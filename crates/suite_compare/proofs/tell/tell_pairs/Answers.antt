use Rattle.std.{proofs.Common.{◌∙◌, ◌++◌, ap, arith, filter, length, ltb, sym}, specs.List.{flat_map}}
use Rattle.suite_compare.{specs.Comparing.{goes_alone}, specs.Report.{is_yes}, specs.Telling.{partners_at, told_after, told_pair}, proofs.Named.{both_new}, proofs.Paired.{kept_more, kept_skip}}
use Rattle.suite_compare.proofs.tell.tell_pairs.Goals as goal

pub verdict_of-requires-clause-place : goal.verdict_of-requires-clause-place
verdict_of-requires-clause-place c = omega (arith, ap length c.deref.ensures.value, c.args.sides.now.long)

pub verdict_of-requires-clause-kind : goal.verdict_of-requires-clause-kind
verdict_of-requires-clause-kind c = rw c.deref.ensures.value ((both_new c.args.sides.now).within c.loop-place.place (omega arith))

pub loop-place-preserved-then-not-is_yes : goal.loop-place-preserved-then-not-is_yes
loop-place-preserved-then-not-is_yes c = kept_skip (told_after c.as_slice-names.result.now c.args.table.now.kind_pairs.pair_of.items c.args.partners.now) (goes_alone c.args.sides.now.side) c.args.lines.now c.loop-place.lines c.loop-place.place
    (ap is_yes (sym (rw c.deref.ensures.value at c.verdict_of.ensures)) ∙ sym c.is_yes.ensures ∙ c.if-not-is_yes.true) c.loop-place.invariant

pub loop-place-preserved : goal.loop-place-preserved
loop-place-preserved c = kept_more (told_after c.as_slice-names.result.now c.args.table.now.kind_pairs.pair_of.items c.args.partners.now) (goes_alone c.args.sides.now.side) c.args.lines.now c.loop-place.lines c.tell_later.new.lines c.loop-place.place
    (ap is_yes (sym (rw c.deref.ensures.value at c.verdict_of.ensures)) ∙ sym c.is_yes.ensures ∙ c.if-not-is_yes.false)
    (c.in_ok-tell_later.ensures ∙ ap (λ z. c.loop-place.lines ++ flat_map (told_pair c.as_slice-names.result.now z c.loop-place.place) (filter (ltb c.loop-place.place) z.told)) (c.partners_at.ensures ∙ ap (partners_at c.args.partners.now) (rw c.deref-in-loop-place.ensures.value at c.place_at-kind_pair.ensures))) c.loop-place.invariant
