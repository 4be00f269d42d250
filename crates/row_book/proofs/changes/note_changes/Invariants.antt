use Rattle.std.proofs.Common.{◌≤◌, ◌+◌, ◌-◌, length, take}
use Rattle.row_book.specs.Uses.{HoldsDifference}
use Rattle.row_book.proofs.changes.note_changes.Given as goal

abbrev pub invariant-walk : goal.invariant-walk
invariant-walk l = record {
  old_in : l.i ≤ length l.old;
  new_in : l.j ≤ length l.new;
  lost : HoldsDifference (take l.i l.old) l.new l.lost.items;
  gained : HoldsDifference (take l.j l.new) l.old l.gained.items;
}

abbrev pub decreases-walk : goal.decreases-walk
decreases-walk l = (length l.initial.old - l.i) + (length l.initial.new - l.j)
