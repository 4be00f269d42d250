use Rattle.std.proofs.Common.{◌+◌, length, not}
use Rattle.std.specs.Prelude.{count_by}
use Rattle.suite_part.proofs.Bases.{Spreads}
use Rattle.suite_part.proofs.base.Base.changed_by.Given as goal

abbrev pub invariant-loop-number : goal.invariant-loop-number
invariant-loop-number l = Spreads l.self.users l.book.conflicts l.self.flags.items l.flags (length l.book.rows) l.number l.changed.items l.work.items

abbrev pub invariant-loop-number-2 : goal.invariant-loop-number-2
invariant-loop-number-2 l = Spreads l.self.users l.book.conflicts l.self.flags.items l.flags (length l.book.rows) (length l.book.rows) l.changed.items l.work.items

abbrev pub decreases-loop-number-2 : goal.decreases-loop-number-2
decreases-loop-number-2 l = count_by not l.changed.items + length l.work.items
