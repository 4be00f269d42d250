use Rattle.std.proofs.Common.{◌≡◌, ℕ, ◌<◌, get_or, true}
use Rattle.clause_pool.specs.Interned.{clause_at}
use Rattle.clause_prune.specs.Tests.{harmless_in}
use Rattle.clause_prune.proofs.pruned_package.PrunedPackage.all_harmless.Given as goal

abbrev pub invariant-loop-other : goal.invariant-loop-other
invariant-loop-other l = (k : ℕ) → k < l.other-index → harmless_in l.self.pool.now l.self.table.now l.self.number l.left (clause_at l.self.pool.now l.clause) (get_or l.conflicting k 0) ≡ true
