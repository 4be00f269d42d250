use Rattle.std.proofs.Common.{◌≤◌, ◌-◌, length}
use Rattle.repo_model.proofs.blank.first_closed.Given as goal

abbrev pub invariant-loop-feed : goal.invariant-loop-feed
invariant-loop-feed l = l.start ≤ length l.text

abbrev pub decreases-loop-feed : goal.decreases-loop-feed
decreases-loop-feed l = length l.text - l.start
