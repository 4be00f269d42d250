use Rattle.std.proofs.Common.{take, map}
use Rattle.row_book.specs.Parts.{chosen_in}
use Rattle.clause_pool.specs.Interned.{clauses_at}
use Rattle.suite_part.specs.Left.{AreLeft}
use Rattle.suite_part.proofs.Parted.{FirstInterned}
use Rattle.suite_part.proofs.rows.left_ids.Given as goal

abbrev pub invariant-loop-id : goal.invariant-loop-id
invariant-loop-id l = record {
  made : FirstInterned l.fn.pool l.pool (map (chosen_in l.chosen.flags.items) (clauses_at l.from (take l.id-index l.row))) l.left.ids.items;
  known : AreLeft l.from l.chosen.flags.items l.pool l.left.known.items l.left.whole.items;
}
