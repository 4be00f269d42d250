use Rattle.std.proofs.Common.{length, ◌-◌}
use Rattle.kernel_text.specs.Strays.{NoneStrayedUpTo}
use Rattle.kernel_text.proofs.find_stray.first_stray.Given as goal

abbrev pub invariant-loop-place : goal.invariant-loop-place
invariant-loop-place l = NoneStrayedUpTo l.bytes l.classes l.place l.line

abbrev pub decreases-loop-place : goal.decreases-loop-place
decreases-loop-place l = length l.bytes - l.place
