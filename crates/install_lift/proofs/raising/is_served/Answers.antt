use Rattle.row_book.specs.Flags.{flag}
use Rattle.listed.proofs.Lists.{In_at}
use Rattle.install_lift.proofs.Lowering.{served_at}
use Rattle.install_lift.proofs.raising.is_served.Goals as goal

pub row-requires-2 : goal.row-requires-2
row-requires-2 c = c.requires.sound.rows.of_pool c.row.result (rw c.row.ensures (In_at c.args.book.now.rows c.args.number 0 c.requires.number))

pub returns : goal.returns
returns c = served_at c.args.pool.now c.args.book.now (flag c.args.set.now) (flag c.args.more.now) c.args.number c.row.result c.row-2.result.now c.serves.result c.requires.number c.row.ensures c.row-2.ensures.lent c.serves.ensures
