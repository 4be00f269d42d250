use Rattle.std.proofs.Common.{◌∙◌}
use Rattle.listed.proofs.Orders.{search_tells}
use Rattle.listed.proofs.ascending.holds_sorted.Goals as goal

pub returns : goal.returns
returns c = c.is_ok.ensures.value ∙ search_tells c.args.list.now c.args.number c.binary_search.result c.requires c.binary_search.ensures.position
