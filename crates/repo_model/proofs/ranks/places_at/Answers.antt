use Rattle.listed.proofs.Lists.{item_in}
use Rattle.repo_model.proofs.ranks.places_at.Goals as goal

pub place_of-requires : goal.place_of-requires
place_of-requires c = c.requires c.id-item.result (item_in c.args.ids.now c.loop-id.id-index c.id-item.result c.loop-id-test.true c.id-item.is)
