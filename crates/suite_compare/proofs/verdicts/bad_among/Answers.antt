use Rattle.std.{proofs.Common.{refl, ◌<◌, ◌∙◌, ◌∷◌, [], ap, get_or, subst, sym}, specs.List.{flat_map}, proofs.lemmas.List.{append-nil, take_all}}
use Rattle.suite_compare.{specs.Report.{is_yes}, specs.Bad.{bad, bad_entry}, proofs.Judged.{entry_bad, entry_yes, single_yes, singles_long}, proofs.Groups.{behind_more}}
use Rattle.suite_compare.proofs.verdicts.bad_among.Goals as goal

pub verdict_at-requires : goal.verdict_at-requires
verdict_at-requires c = subst (λ z. (get_or c.args.suspects.now c.loop-other.other-index 0) < z) (sym (singles_long c.args.judge.now c.args.singles.now c.requires.singles)) (c.requires.suspects c.loop-other.other-index c.loop-other-test.true)

pub verdict_beside-requires-clause-second_alone : goal.verdict_beside-requires-clause-second_alone
verdict_beside-requires-clause-second_alone c =
    single_yes c.args.judge.now c.args.singles.now (get_or c.args.suspects.now c.loop-other.other-index 0) c.verdict_at.result c.is_yes.result _ (c.requires.suspects c.loop-other.other-index c.loop-other-test.true) c.requires.singles c.verdict_at.ensures c.is_yes.ensures c.if-not-is_yes.false

pub loop-other-preserved-then-not-is_yes : goal.loop-other-preserved-then-not-is_yes
loop-other-preserved-then-not-is_yes c =
    behind_more (bad_entry c.args.judge.now c.args.singles.now c.args.kind) c.args.suspects.now c.loop-other.other-index 0 [] c.loop-other.bad c.loop-other.bad [] c.loop-other-test.true (sym (append-nil c.loop-other.bad)) c.loop-other.invariant
    (rw (ap is_yes (sym c.verdict_at.ensures) ∙ sym c.is_yes.ensures ∙ c.if-not-is_yes.true) refl)

pub loop-other-preserved-then-is_yes : goal.loop-other-preserved-then-is_yes
loop-other-preserved-then-is_yes c =
    behind_more (bad_entry c.args.judge.now c.args.singles.now c.args.kind) c.args.suspects.now c.loop-other.other-index 0 [] c.loop-other.bad c.loop-other.bad [] c.loop-other-test.true (sym (append-nil c.loop-other.bad)) c.loop-other.invariant
    (entry_yes c.args.judge.now c.args.singles.now c.args.kind (get_or c.args.suspects.now c.loop-other.other-index 0) (ap is_yes (sym c.in_ok-verdict.ensures) ∙ sym c.is_yes-in-loop-other.ensures ∙ c.if-is_yes.true))

pub loop-other-preserved : goal.loop-other-preserved
loop-other-preserved c =
    behind_more (bad_entry c.args.judge.now c.args.singles.now c.args.kind) c.args.suspects.now c.loop-other.other-index 0 [] c.loop-other.bad c.push.new.self (bad (get_or c.args.suspects.now c.loop-other.other-index 0) c.in_ok-verdict.verdict ∷ []) c.loop-other-test.true c.in_ok-push.ensures.ok c.loop-other.invariant
    (entry_bad c.args.judge.now c.args.singles.now c.args.kind (get_or c.args.suspects.now c.loop-other.other-index 0) c.in_ok-verdict.verdict (ap is_yes (sym c.verdict_at.ensures) ∙ sym c.is_yes.ensures ∙ c.if-not-is_yes.false) c.in_ok-verdict.ensures
    (sym c.is_yes-in-loop-other.ensures ∙ c.if-is_yes.false))

pub returns : goal.returns
returns c = c.loop-other.invariant ∙ ap (flat_map (bad_entry c.args.judge.now c.args.singles.now c.args.kind)) (take_all c.loop-other.other-index c.args.suspects.now c.loop-other-test.false)
