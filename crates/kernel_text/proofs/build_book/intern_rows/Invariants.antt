use Rattle.std.proofs.Common.{map, take}
use Rattle.clause_pool.specs.Interned.{Kept, clauses_at}
use Rattle.kernel_text.specs.Booking.{AreRows, GainsRows}
use Rattle.kernel_text.proofs.build_book.intern_rows.Given as goal

abbrev pub invariant-loop-ids : goal.invariant-loop-ids
invariant-loop-ids l = record {
  rows : AreRows l.pool (map (clauses_at l.fn.pool) (take l.ids-index l.table)) l.rows.items;
  kept : Kept l.fn.pool l.pool;
  gains : GainsRows l.fn.pool l.pool (take l.ids-index l.table) l.rows.items;
}
