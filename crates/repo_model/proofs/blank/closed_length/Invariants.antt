use Rattle.std.proofs.Common.{◌≤◌, length}
use Rattle.repo_model.proofs.Opening.{NoneCloses}
use Rattle.repo_model.proofs.blank.closed_length.Given as goal

abbrev pub invariant-loop-end : goal.invariant-loop-end
invariant-loop-end l = record { within : l.end ≤ length l.text; none : NoneCloses l.text l.end }

abbrev pub decreases-loop-end : goal.decreases-loop-end
decreases-loop-end l = l.end
