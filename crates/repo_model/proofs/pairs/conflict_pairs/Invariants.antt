use Rattle.std.proofs.Common.{[]}
use Rattle.repo_model.specs.Pairs.{Adds, IsFound}
use Rattle.repo_model.proofs.pairs.conflict_pairs.Given as goal

abbrev pub invariant-loop-place : goal.invariant-loop-place
invariant-loop-place l = Adds (IsFound l.home l.packages l.place) [] l.pairs.items
