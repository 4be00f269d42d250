use Rattle.std.proofs.Common.{map, take}
use Rattle.clause_pool.specs.Interned.{Kept}
use Rattle.kernel_text.specs.{Booking.{GainsClauses, HasIdsByClass}, Reader.{entry_of}}
use Rattle.kernel_text.proofs.build_book.intern_clauses.Given as goal

abbrev pub invariant-loop-clause : goal.invariant-loop-clause
invariant-loop-clause l = record {
  ids : HasIdsByClass l.pool (map entry_of (take l.clause-index l.clauses)) l.classes l.table.items;
  kept : Kept l.fn.pool l.pool;
  gains : GainsClauses l.fn.pool l.pool l.table.items;
}
