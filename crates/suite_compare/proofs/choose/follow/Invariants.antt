use Rattle.std.proofs.Common.{◌≡◌, length}
use Rattle.suite_compare.proofs.choose.follow.Given as goal

abbrev pub invariant-loop-place : goal.invariant-loop-place
invariant-loop-place l = l.chosen.0 ≡ length l.kernel.book.now.rows
