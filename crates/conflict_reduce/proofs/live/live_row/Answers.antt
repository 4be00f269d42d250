use Rattle.std.proofs.Common.{arith}
use Rattle.listed.proofs.Lists.{item_in}
use Rattle.conflict_reduce.proofs.live.live_row.Goals as goal

pub slice-requires : goal.slice-requires
slice-requires c = c.requires.row c.id-item.result (item_in c.args.row.now c.loop-id.id-index c.id-item.result (omega arith) c.id-item.is)
