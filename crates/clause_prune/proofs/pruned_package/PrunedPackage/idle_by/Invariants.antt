use Rattle.std.proofs.Common.{◌≡◌, ℕ, ◌<◌, get_or, false}
use Rattle.clause_pool.specs.Interned.{clause_at}
use Rattle.row_book.specs.Pruning.{is_idle}
use Rattle.clause_prune.specs.PrunedPackages.{left_with}
use Rattle.clause_prune.proofs.pruned_package.PrunedPackage.idle_by.Given as goal

abbrev pub invariant-loop-member : goal.invariant-loop-member
invariant-loop-member l =
    (k : ℕ) → k < l.member-index → is_idle (left_with l.self l.left) l.self.number (clause_at l.self.pool.now l.clause) (get_or (clause_at l.self.pool.now l.clause) k 0) ≡ false
