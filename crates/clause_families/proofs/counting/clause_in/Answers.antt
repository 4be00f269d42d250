use Rattle.std.proofs.Common.{◌∙◌, sym}
use Rattle.listed.proofs.Lists.{item_nil}
use Rattle.clause_families.proofs.counting.clause_in.Goals as goal

pub returns : goal.returns
returns c = c.as_slice.ensures ∙ sym (item_nil c.args.family.now c.args.place c.index-family-place.result c.requires c.index-family-place.is)
