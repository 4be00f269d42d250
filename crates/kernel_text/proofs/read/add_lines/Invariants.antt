use Rattle.std.proofs.Common.{length, ◌-◌}
use Rattle.kernel_text.specs.Reader.{HoldsUpTo}
use Rattle.kernel_text.proofs.read.add_lines.Given as goal

abbrev pub invariant-loop-place : goal.invariant-loop-place
invariant-loop-place l = HoldsUpTo l.bytes l.place l.line l.reader

abbrev pub decreases-loop-place : goal.decreases-loop-place
decreases-loop-place l = length l.bytes - l.place
