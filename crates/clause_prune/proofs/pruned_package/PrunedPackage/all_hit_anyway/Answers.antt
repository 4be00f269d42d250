use Rattle.std.proofs.Common.{◌∙◌, ap, arith, sym}
use Rattle.clause_pool.specs.Interned.{clause_at}
use Rattle.listed.proofs.Lists.{item_in}
use Rattle.clause_prune.specs.Tests.{hit_anyway_in}
use Rattle.clause_prune.proofs.Passing.{each_fails, each_pass}
use Rattle.clause_prune.proofs.pruned_package.PrunedPackage.all_hit_anyway.Goals as goal

pub slice-requires : goal.slice-requires
slice-requires c = c.requires.row c.id-item.result (item_in c.args.row.now c.loop-id.id-index c.id-item.result (omega arith) c.id-item.is)

pub returns-then-not-is_hit_anyway : goal.returns-then-not-is_hit_anyway
returns-then-not-is_hit_anyway c =
    sym (each_fails (hit_anyway_in c.args.self.now.pool.now c.args.self.now.number c.args.left.now (clause_at c.args.self.now.pool.now c.args.clause)) (clause_at c.args.self.now.pool.now) c.args.row.now c.id-item.result
    (item_in c.args.row.now c.loop-id.id-index c.id-item.result (omega arith) c.id-item.is)
    (ap (hit_anyway_in c.args.self.now.pool.now c.args.self.now.number c.args.left.now (clause_at c.args.self.now.pool.now c.args.clause)) (sym c.slice.ensures.lent) ∙ sym c.is_hit_anyway.ensures ∙ c.if-not-is_hit_anyway.true))

pub returns : goal.returns
returns c =
    sym (each_pass (hit_anyway_in c.args.self.now.pool.now c.args.self.now.number c.args.left.now (clause_at c.args.self.now.pool.now c.args.clause)) (clause_at c.args.self.now.pool.now) c.args.row.now (λ k l. c.loop-id.invariant k (omega arith)))
