use Rattle.list_table.proofs.Index.{index_put}
use Rattle.list_table.proofs.hash_index.put.Goals as goal

pub returns-clause-index : goal.returns-clause-index
returns-clause-index c hashes count is = index_put c.args.places.now c.args.hash c.args.number c.free_place-place.result c.free_place-place.ensures hashes count is
