use Rattle.std.proofs.Common.{◌≡◌, take}
use Rattle.std.specs.List.{flat_map}
use Rattle.repo_model.specs.Meeting.{meeting}
use Rattle.repo_model.proofs.clauses.meeting_each.Given as goal

abbrev pub invariant-loop-atom : goal.invariant-loop-atom
invariant-loop-atom l = l.numbers.items ≡ flat_map (meeting l.home l.packages) (take l.atom-index l.atoms)
