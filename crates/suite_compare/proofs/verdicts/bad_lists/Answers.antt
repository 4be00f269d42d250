use Rattle.std.proofs.Common.{◌≡◌, [], length, arith}
use Rattle.suite_compare.{specs.Bad.{AreBad}, proofs.Groups.{each_more, each_none}}
use Rattle.suite_compare.proofs.verdicts.bad_lists.Goals as goal

pub loop-kind-init : goal.loop-kind-init
loop-kind-init c = each_none (AreBad c.args.judge.now) [] c.new-lists.result.items c.new-lists.ensures.items

pub loop-kind-preserved : goal.loop-kind-preserved
loop-kind-preserved c = each_more (AreBad c.args.judge.now) [] c.loop-kind.kind c.loop-kind.lists.items c.push.new.self.items c.in_ok-bad.bad c.in_ok-push.ensures.items c.in_ok-bad.ensures c.loop-kind.invariant

pub returns : goal.returns
returns c =
    let e : c.loop-kind.kind ≡ length c.args.judge.now.kinds.items = omega (arith, c.len-kind-end.ensures, c.args.judge.now.kinds.ok.0, c.loop-kind-test.false, c.loop-kind.auto.kind-end) in rw e at c.loop-kind.invariant
