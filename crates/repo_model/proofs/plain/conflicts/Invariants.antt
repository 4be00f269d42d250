use Rattle.std.proofs.Common.{◌≡◌, map}
use Rattle.std.specs.List.{range_with_len}
use Rattle.repo_model.specs.Repository.{conflicting_with}
use Rattle.repo_model.proofs.plain.conflicts.Given as goal

abbrev pub invariant-loop-number : goal.invariant-loop-number
invariant-loop-number l = l.conflicts ≡ map (conflicting_with l.home l.stanzas) (range_with_len 0 l.number)
