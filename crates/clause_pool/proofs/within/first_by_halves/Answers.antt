use Rattle.std.proofs.Common.{◌≤◌, ◌+◌, ◌-◌, ◌/◌, length, arith}
use Rattle.clause_pool.proofs.Groups.{above_at, below_at}
use Rattle.listed.proofs.Lists.{item_in}
use Rattle.clause_pool.proofs.within.first_by_halves.Goals as goal

pub goes_on_below-requires : goal.goes_on_below-requires
goes_on_below-requires c =
    let high : c.loop-low.high ≤ length c.args.group.now = c.loop-low.invariant.1 in
    c.requires.group c.index-group-middle.result
    (item_in c.args.group.now (c.loop-low.low + (c.loop-low.high - c.loop-low.low) / 2) c.index-group-middle.result (omega (arith, high)) c.index-group-middle.is)

-- all up to the middle are below, too
pub loop-low-preserved-then-goes_on_below : goal.loop-low-preserved-then-goes_on_below
loop-low-preserved-then-goes_on_below c =
    let high : c.loop-low.high ≤ length c.args.group.now = c.loop-low.invariant.1 in (
      omega arith,
      high,
      below_at c.args.pool.now c.args.depth c.args.group.now c.requires.order c.args.number (c.loop-low.low + (c.loop-low.high - c.loop-low.low) / 2) c.index-group-middle.result (omega (arith, high)) c.index-group-middle.is
          c.if-goes_on_below.ensures.below,
      c.loop-low.invariant.3,
    )

-- none from the middle on is below
pub loop-low-preserved : goal.loop-low-preserved
loop-low-preserved c =
    let high : c.loop-low.high ≤ length c.args.group.now = c.loop-low.invariant.1 in (
      omega arith,
      omega (arith, high),
      c.loop-low.invariant.2,
      above_at c.args.pool.now c.args.depth c.args.group.now c.requires.order c.args.number (c.loop-low.low + (c.loop-low.high - c.loop-low.low) / 2) c.index-group-middle.result (omega (arith, high)) c.index-group-middle.is
          c.if-goes_on_below.ensures.not_below,
    )
