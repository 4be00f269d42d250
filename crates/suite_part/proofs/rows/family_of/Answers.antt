use Rattle.clause_families.proofs.Families.{of_pool_item}
use Rattle.suite_part.proofs.rows.family_of.Goals as goal

pub slice-requires : goal.slice-requires
slice-requires c = of_pool_item c.args.pool.now c.args.ids.now c.loop-id.id-index c.id-item.result c.requires c.loop-id-test.true c.id-item.is
