use Rattle.std.proofs.Common.{◌≡◌, ℕ, ◌<◌, get_or, true}
use Rattle.clause_pool.specs.Interned.{clause_at}
use Rattle.clause_prune.specs.Tests.{hit_anyway_in}
use Rattle.clause_prune.proofs.pruned_package.PrunedPackage.all_hit_anyway.Given as goal

abbrev pub invariant-loop-id : goal.invariant-loop-id
invariant-loop-id l = (k : ℕ) → k < l.id-index → hit_anyway_in l.self.pool.now l.self.number l.left (clause_at l.self.pool.now l.clause) (clause_at l.self.pool.now (get_or l.row k 0)) ≡ true
