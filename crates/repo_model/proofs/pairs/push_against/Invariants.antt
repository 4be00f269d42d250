use Rattle.std.proofs.Common.{take}
use Rattle.repo_model.specs.Pairs.{Adds, IsAgainst}
use Rattle.repo_model.proofs.pairs.push_against.Given as goal

abbrev pub invariant-loop-atom : goal.invariant-loop-atom
invariant-loop-atom l = Adds (IsAgainst l.home l.packages l.number (take l.atom-index l.atoms)) l.fn.pairs.items l.pairs.items
