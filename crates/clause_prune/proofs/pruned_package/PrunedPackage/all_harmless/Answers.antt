use Rattle.std.proofs.Common.{◌∙◌, arith, sym}
use Rattle.clause_pool.specs.Interned.{clause_at}
use Rattle.clause_prune.specs.Tests.{harmless_in}
use Rattle.clause_pool.proofs.Leads.{all_fails, all_pass}
use Rattle.clause_prune.proofs.pruned_package.PrunedPackage.all_harmless.Goals as goal

pub returns-then-not-is_harmless : goal.returns-then-not-is_harmless
returns-then-not-is_harmless c =
    sym (all_fails (harmless_in c.args.self.now.pool.now c.args.self.now.table.now c.args.self.now.number c.args.left.now (clause_at c.args.self.now.pool.now c.args.clause)) c.args.conflicting.now c.loop-other.other-index (omega arith)
    (sym c.is_harmless.ensures ∙ c.if-not-is_harmless.true))

pub returns : goal.returns
returns c =
    sym (all_pass (harmless_in c.args.self.now.pool.now c.args.self.now.table.now c.args.self.now.number c.args.left.now (clause_at c.args.self.now.pool.now c.args.clause)) c.args.conflicting.now (λ k l. c.loop-other.invariant k (omega arith)))
