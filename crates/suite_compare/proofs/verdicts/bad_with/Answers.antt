use Rattle.std.{proofs.Common.{◌∙◌, ◌<◌, ap, subst, sym}, specs.List.{flat_map}}
use Rattle.listed.proofs.Lists.{In_at}
use Rattle.suite_compare.{specs.Bad.{bad_entry}, proofs.Judged.{bad_from, bad_none, single_yes, singles_long}}
use Rattle.suite_compare.proofs.verdicts.bad_with.Goals as goal

pub verdict_at-requires : goal.verdict_at-requires
verdict_at-requires c = subst (λ z. c.args.kind < z) (sym (singles_long c.args.judge.now c.args.singles.now c.requires.singles)) c.requires.kind

pub returns-then-not-is_yes : goal.returns-then-not-is_yes
returns-then-not-is_yes c =
    bad_none c.args.judge.now c.args.kind c.new.result (single_yes c.args.judge.now c.args.singles.now c.args.kind c.verdict_at.result c.is_yes.result _ c.requires.kind c.requires.singles c.verdict_at.ensures c.is_yes.ensures c.if-not-is_yes.true) c.new.ensures

pub bad_among-requires-clause-alone : goal.bad_among-requires-clause-alone
bad_among-requires-clause-alone c = single_yes c.args.judge.now c.args.singles.now c.args.kind c.verdict_at.result c.is_yes.result _ c.requires.kind c.requires.singles c.verdict_at.ensures c.is_yes.ensures c.if-not-is_yes.false

pub bad_among-requires-clause-suspects : goal.bad_among-requires-clause-suspects
bad_among-requires-clause-suspects c = λ i l. rw (c.as_slice.ensures.value, ← c.requires.choices.chosen.long) (c.in_ok-suspects.ensures.only _ (In_at c.in_ok-suspects.suspects.items i 0 (rw c.as_slice.ensures.value at l)))

pub returns : goal.returns
returns c =
    bad_from c.args.judge.now c.args.singles.now c.args.choices.now c.args.kind c.in_ok-suspects.suspects.items c.in_ok-bad.bad c.requires.kind c.requires.singles c.requires.choices c.in_ok-suspects.ensures
    (c.in_ok-bad.ensures ∙ ap (flat_map (bad_entry c.args.judge.now c.args.singles.now c.args.kind)) c.as_slice.ensures.value)
