use Rattle.std.proofs.Common.{arith}
use Rattle.listed.proofs.Lists.{In_at}
use Rattle.row_book.proofs.book.Book.check_clauses.Goals as goal

pub row-ids-requires : goal.row-ids-requires
row-ids-requires c =
    rw c.row.ensures (c.requires.sound.rows.of_pool _ (In_at c.args.self.now.rows c.loop-number.number 0 (omega arith)))
