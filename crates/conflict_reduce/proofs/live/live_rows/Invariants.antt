use Rattle.std.proofs.Common.{◌≡◌, map}
use Rattle.row_book.specs.Numbers.{numbers}
use Rattle.conflict_reduce.specs.Live.{live_ids}
use Rattle.conflict_reduce.proofs.live.live_rows.Given as goal

abbrev pub invariant-loop-number : goal.invariant-loop-number
invariant-loop-number l = l.made.items ≡ map (live_ids l.pool l.book) (numbers l.number 0)
