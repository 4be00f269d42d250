use Rattle.std.proofs.Common.{ap, map}
use Rattle.clause_pool.specs.Interned.{row_at}
use Rattle.suite_part.proofs.Parted.{parted_book, parted_few, parted_paired, parted_sound}
use Rattle.suite_part.proofs.part.part_of.Goals as goal

pub invariant_of-result : goal.invariant_of-result
invariant_of-result c = record {
  few = parted_few c.args.from.now c.rows_in.new.pool c.args.book.now c.args.chosen.now.flags.items c.in_ok-rows.rows.items c.in_ok-conflicts.conflicts.items c.requires.book c.requires.flags
      c.in_ok-rows.ensures.rows c.in_ok-conflicts.ensures c.of.result c.of.ensures;
  paired = parted_paired c.args.from.now c.rows_in.new.pool c.args.book.now c.args.chosen.now.flags.items c.in_ok-rows.rows.items c.in_ok-conflicts.conflicts.items c.requires.book c.requires.flags
      c.in_ok-rows.ensures.rows c.in_ok-conflicts.ensures c.of.result c.of-2.result c.of.ensures c.of-2.ensures;
}

pub returns-clause-part : goal.returns-clause-part
returns-clause-part c =
    parted_book c.args.from.now c.rows_in.new.pool c.args.book.now c.args.chosen.now.flags.items c.in_ok-rows.rows.items c.in_ok-conflicts.conflicts.items c.requires.book c.requires.flags
    c.in_ok-rows.ensures.rows c.in_ok-conflicts.ensures _ (ap (map (row_at c.rows_in.new.pool)) c.of.ensures) c.of-2.ensures

pub returns-clause-sound : goal.returns-clause-sound
returns-clause-sound c =
    parted_sound c.args.from.now c.rows_in.new.pool c.args.book.now c.args.chosen.now.flags.items c.in_ok-rows.rows.items c.in_ok-conflicts.conflicts.items c.requires.book c.requires.flags
    c.in_ok-rows.ensures.rows c.in_ok-conflicts.ensures _ c.of.ensures c.of-2.ensures (c.rows_in.ensures.kept.sound c.requires.pool) c.in_ok-rows.ensures.of_pool
