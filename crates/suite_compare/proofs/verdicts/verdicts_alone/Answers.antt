use Rattle.std.{proofs.Common.{[], map, ap, ◌∙◌, arith}, proofs.lemmas.List.{take_all}}
use Rattle.suite_compare.{specs.Kinds.{alone, kernel_in}, proofs.Groups.{map_pushed}}
use Rattle.suite_compare.proofs.verdicts.verdicts_alone.Goals as goal

pub loop-kind-preserved : goal.loop-kind-preserved
loop-kind-preserved c = map_pushed (alone (kernel_in c.args.judge.now) c.args.judge.now.budget) c.args.judge.now.kinds.items c.loop-kind.kind [] c.loop-kind.verdicts.items c.push.new.self.items c.in_ok-verdict.verdict
    (omega (arith, c.len-kind-end.ensures, c.args.judge.now.kinds.ok.0, c.loop-kind-test.true)) c.in_ok-push.ensures.items c.in_ok-verdict.ensures c.loop-kind.invariant

pub returns : goal.returns
returns c = c.loop-kind.invariant ∙ ap (map (alone (kernel_in c.args.judge.now) c.args.judge.now.budget))
    (take_all c.loop-kind.kind c.args.judge.now.kinds.items (omega (arith, c.len-kind-end.ensures, c.args.judge.now.kinds.ok.0, c.loop-kind-test.false)))
