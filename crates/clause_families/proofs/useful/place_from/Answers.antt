use Rattle.std.proofs.Common.{arith}
use Rattle.listed.proofs.Lists.{item_in}
use Rattle.clause_families.proofs.useful.place_from.Goals as goal

pub slice-requires : goal.slice-requires
slice-requires c = c.requires c.index-row-place.result (item_in c.args.row.now c.loop-place.place c.index-row-place.result (omega arith) c.index-row-place.is)
