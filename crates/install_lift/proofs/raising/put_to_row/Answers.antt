use Rattle.row_book.specs.Flags.{flag}
use Rattle.listed.proofs.Lists.{item_in}
use Rattle.install_lift.proofs.Naming.{puts_none, puts_more}
use Rattle.install_lift.proofs.raising.put_to_row.Goals as goal

pub loop-id-init : goal.loop-id-init
loop-id-init c = puts_none (flag c.args.more.now) c.args.number c.args.table.now

pub slice-requires : goal.slice-requires
slice-requires c = c.requires.of_pool c.id-item.result (item_in c.args.ids.now c.loop-id.id-index c.id-item.result c.loop-id-test.true c.id-item.is)

pub loop-id-preserved : goal.loop-id-preserved
loop-id-preserved c =
    puts_more (flag c.args.more.now) c.args.pool.now c.args.ids.now c.loop-id.id-index c.id-item.result c.args.number c.slice.result.now c.args.table.now c.loop-id.table c.put_to_clause.new.table c.loop-id-test.true c.id-item.is c.slice.ensures.lent
    c.loop-id.invariant c.in_ok-put_to_clause.ensures
