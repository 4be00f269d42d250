use Rattle.listed.proofs.Lists.{item_in}
use Rattle.row_book.proofs.Tables.{holds_more}
use Rattle.row_book.proofs.uses.numbers_in.Goals as goal

pub slice-requires : goal.slice-requires
slice-requires c = c.requires c.id-item.result (item_in c.args.ids.now c.loop-id.id-index c.id-item.result c.loop-id-test.true c.id-item.is)

pub loop-id-preserved : goal.loop-id-preserved
loop-id-preserved c = λ n.
    holds_more c.args.pool.now c.args.ids.now c.loop-id.id-index c.id-item.result c.loop-id.found.items c.slice.result.now c.extend_from_slice.new.self.items
    c.loop-id-test.true c.id-item.is c.slice.ensures.lent c.in_ok-extend_from_slice.ensures.items n (c.loop-id.invariant n)
