use Rattle.std.proofs.Common.{take}
use Rattle.row_book.specs.Parts.{clauses_in}
use Rattle.clause_pool.specs.Interned.{clauses_at}
use Rattle.suite_part.specs.Back.{AreBack}
use Rattle.suite_part.proofs.Parted.{FirstInterned}
use Rattle.suite_part.proofs.back.ids_back.Given as goal

abbrev pub invariant-loop-id : goal.invariant-loop-id
invariant-loop-id l = record {
  made : FirstInterned l.fn.pool l.pool (clauses_in l.numbers (clauses_at l.from (take l.id-index l.row))) l.ids.items;
  seen : AreBack l.from l.numbers l.pool l.seen.items;
}
