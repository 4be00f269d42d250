use Rattle.listed.proofs.Lists.{In_at}
use Rattle.class_merge.proofs.grouping.put_flagged.Goals as goal

pub bounds-flags-number : goal.bounds-flags-number
bounds-flags-number c = c.requires _ (In_at c.args.numbers.now c.loop-number.number-index 0 c.loop-number-test.true)
