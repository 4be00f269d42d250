use Rattle.std.proofs.Common.{◌≡◌, filter}
use Rattle.std.specs.List.{range_with_len}
use Rattle.repo_model.specs.Repository.{in_conflict}
use Rattle.repo_model.proofs.plain.conflicting_with.Given as goal

abbrev pub invariant-loop-number : goal.invariant-loop-number
invariant-loop-number l = l.others ≡ filter (in_conflict l.home l.stanzas l.of) (range_with_len 0 l.number)
