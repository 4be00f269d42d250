use Rattle.std.proofs.Common.{◌<◌, ◌-◌, length, arith}
use Rattle.listed.proofs.Lists.{item_in}
use Rattle.install_lift.proofs.lifting.take_all_back.Goals as goal

-- the step is one of the trail's
pub take_back-requires : goal.take_back-requires
take_back-requires c =
    let within = c.loop-left.invariant.within in
    let more = c.loop-left-test.true in
    let lt : c.loop-left.left - 1 < length c.args.steps.now = omega (arith, within, more) in
    c.requires c.index-steps-left.result (item_in c.args.steps.now (c.loop-left.left - 1) c.index-steps-left.result lt c.index-steps-left.is)
