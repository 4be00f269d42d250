use Rattle.listed.proofs.Orders.{ascending_rises}
use Rattle.listed.proofs.ascending.holds_ascending.Goals as goal

pub holds_sorted-requires : goal.holds_sorted-requires
holds_sorted-requires c = ascending_rises c.args.list.now c.requires
