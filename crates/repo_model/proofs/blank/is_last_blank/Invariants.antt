use Rattle.std.proofs.Common.{◌≡◌, ◌≤◌, length, take}
use Rattle.repo_model.specs.Backward.{is_last_blank}
use Rattle.repo_model.proofs.blank.is_last_blank.Given as goal

abbrev pub invariant-loop-start : goal.invariant-loop-start
invariant-loop-start l = record { within : l.start ≤ length l.text; same : is_last_blank (take l.start l.text) ≡ is_last_blank (take l.end l.text) }

abbrev pub decreases-loop-start : goal.decreases-loop-start
decreases-loop-start l = l.start
