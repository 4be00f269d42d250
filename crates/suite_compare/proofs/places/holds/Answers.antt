use Rattle.std.proofs.Common.{◌∙◌}
use Rattle.listed.proofs.Orders.{ascending_rises, search_tells}
use Rattle.suite_compare.proofs.places.holds.Goals as goal

pub returns : goal.returns
returns c = c.is_ok.ensures.value ∙ search_tells c.args.ascending.now c.args.number c.binary_search.result (ascending_rises c.args.ascending.now c.requires) c.binary_search.ensures.position
