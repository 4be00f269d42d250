use Rattle.std.proofs.Common.{◌<◌, length, subst, sym}
use Rattle.listed.proofs.Lists.{item_in}
use Rattle.suite_part.proofs.rows.are_whole.Goals as goal

pub bounds-whole-place : goal.bounds-whole-place
bounds-whole-place c = subst (λ z. z < length c.args.whole.now) (sym c.place.ensures) (c.requires _ (item_in c.args.row.now c.loop-id.id-index c.id-item.result c.loop-id-test.true c.id-item.is))
