use Rattle.std.proofs.Common.{arith}
use Rattle.install_lift.proofs.Chained.{chain_step, walked, walked_all}
use Rattle.install_lift.proofs.user_table.add_chain.Goals as goal

pub loop-left-preserved : goal.loop-left-preserved
loop-left-preserved c =
    let less = (chain_step c.args.entries.now c.loop-left.left c.requires.falls c.loop-left-test.true c.loop-left.invariant.within).0 in
    let within = c.loop-left.invariant.within in
    record {
      within = omega (arith, less, within);
      same = walked c.args.entries.now c.loop-left.list.items c.push.new.self.items _ c.loop-left.left c.requires.falls c.loop-left-test.true c.loop-left.invariant.within c.in_ok-push.ensures.items c.loop-left.invariant.same;
    }

pub loop-left-smaller : goal.loop-left-smaller
loop-left-smaller c = (chain_step c.args.entries.now c.loop-left.left c.requires.falls c.loop-left-test.true c.loop-left.invariant.within).0

pub returns : goal.returns
returns c = walked_all c.args.entries.now c.loop-left.list.items _ c.loop-left.left c.loop-left-test.false c.loop-left.invariant.same
