use Rattle.suite_part.specs.Back.{AreBack}
use Rattle.row_book.specs.Parts.{numbers_up}
use Rattle.suite_part.proofs.Renewing.{RenewedTo}
use Rattle.suite_part.proofs.renewed.renewed_rows.Given as goal

abbrev pub invariant-loop-number : goal.invariant-loop-number
invariant-loop-number l = record {
  rows : RenewedTo l.fn.pool l.from l.made l.apart.flags.items l.changed l.rows l.pool l.more.items l.number;
  seen : AreBack l.from (numbers_up l.apart.flags.items) l.pool l.seen.items;
}
