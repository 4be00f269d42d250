use Rattle.std.{proofs.Common.{◌∙◌, ◌∷◌, [], ap, ap₂, arith, length, sym}, proofs.lemmas.List.{take_all}}
use Rattle.suite_compare.{specs.Comparing.{told_singles}, specs.Report.{finding, single_line}, proofs.Groups.{behind_more}, proofs.Named.{both_new}}
use Rattle.suite_compare.proofs.comparison.single_lines.Goals as goal

pub loop-place-init : goal.loop-place-init
loop-place-init c = λ v w are. c.new-lines.ensures

pub verdict_of-before-requires-clause-kind : goal.verdict_of-before-requires-clause-kind
verdict_of-before-requires-clause-kind c = rw c.deref.ensures.value (c.args.sides.now.old_within c.loop-place.place (omega arith))

pub verdict_of-after-requires-clause-place : goal.verdict_of-after-requires-clause-place
verdict_of-after-requires-clause-place c = omega (arith, ap length c.deref-in-loop-place.ensures.value, c.args.sides.now.long)

pub verdict_of-after-requires-clause-kind : goal.verdict_of-after-requires-clause-kind
verdict_of-after-requires-clause-kind c = rw c.deref-in-loop-place.ensures.value ((both_new c.args.sides.now).within c.loop-place.place (omega arith))

pub loop-place-preserved : goal.loop-place-preserved
loop-place-preserved c = λ v w are.
    behind_more (λ a. single_line a (finding (v (a ∷ [])) (w (a ∷ [])))) c.args.sides.now.common.names.items c.loop-place.place [] [] c.loop-place.lines c.push_single.new.lines _ (omega arith) c.in_ok-push_single.ensures (c.loop-place.invariant v w are)
    (ap₂ single_line (sym (rw c.deref-in-loop-place-2.ensures.value at c.name_at.ensures)) (ap₂ finding (are.old.single c.loop-place.place (omega arith) ∙ sym (rw c.deref.ensures.value at c.verdict_of-before.ensures)) (are.new.single c.loop-place.place (omega arith) ∙ sym (rw c.deref-in-loop-place.ensures.value at c.verdict_of-after.ensures))
    ∙ sym c.finding_of-finding.ensures))

pub returns : goal.returns
returns c = λ v w are. c.loop-place.invariant v w are ∙ ap (told_singles v w) (take_all c.loop-place.place c.args.sides.now.common.names.items (omega arith))
