use Rattle.std.proofs.Common.{refl}
use Rattle.migrate_plan.proofs.Flagged.{raised_all, raised_more, raised_none}
use Rattle.migrate_plan.proofs.flags.raise_all.Goals as goal

pub loop-number-init : goal.loop-number-init
loop-number-init c = raised_none c.args.flags.now.items

pub loop-number-preserved : goal.loop-number-preserved
loop-number-preserved c =
    raised_more c.args.flags.now.items c.loop-number.flags.items c.raise.new.flags.items c.args.numbers.now c.loop-number.number-index _ c.loop-number-test.true refl c.raise.ensures c.loop-number.invariant

pub returns : goal.returns
returns c = raised_all c.args.flags.now.items c.loop-number.flags.items c.args.numbers.now c.loop-number.number-index c.loop-number-test.false c.loop-number.invariant
