use Rattle.std.proofs.Common.{◌+◌, length, not}
use Rattle.std.specs.Prelude.{count_by}
use Rattle.suite_part.proofs.Needs.{NeedsTo}
use Rattle.suite_part.proofs.small.needed_in.Given as goal

abbrev pub invariant-loop-number : goal.invariant-loop-number
invariant-loop-number l = NeedsTo l.from l.book l.flags l.changed l.number l.needed.items l.work.items

abbrev pub invariant-loop-number-2 : goal.invariant-loop-number-2
invariant-loop-number-2 l = NeedsTo l.from l.book l.flags l.changed (length l.book.rows) l.needed.items l.work.items

abbrev pub decreases-loop-number-2 : goal.decreases-loop-number-2
decreases-loop-number-2 l = count_by not l.needed.items + length l.work.items
