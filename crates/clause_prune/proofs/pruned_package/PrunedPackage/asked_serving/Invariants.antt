use Rattle.std.proofs.Common.{◌≡◌, ◌++◌, filter, take}
use Rattle.row_book.specs.Pruning.{serves}
use Rattle.clause_prune.specs.PrunedPackages.{bare_with}
use Rattle.clause_prune.proofs.pruned_package.PrunedPackage.asked_serving.Given as goal

abbrev pub invariant-loop-other : goal.invariant-loop-other
invariant-loop-other l = l.serving.items ≡ l.clause ++ filter (serves (bare_with l.self l.left) l.clause) (take l.other-index l.asked)
