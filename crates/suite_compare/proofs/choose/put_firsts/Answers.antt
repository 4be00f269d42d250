use Rattle.clause_pool.specs.Interned.{clause_at}
use Rattle.listed.proofs.Lists.{In_map, item_in}
use Rattle.suite_compare.proofs.choose.put_firsts.Goals as goal

pub slice-requires : goal.slice-requires
slice-requires c = c.requires.row c.id-item.result (item_in c.args.row.now c.loop-id.id-index c.id-item.result c.loop-id-test.true c.id-item.is)

pub put_first-requires : goal.put_first-requires
put_first-requires c = rw (c.slice.ensures.lent, c.loop-id.invariant)
    (c.requires.numbers _ (In_map (clause_at c.args.pool.now) c.args.row.now c.id-item.result (item_in c.args.row.now c.loop-id.id-index c.id-item.result c.loop-id-test.true c.id-item.is)))
