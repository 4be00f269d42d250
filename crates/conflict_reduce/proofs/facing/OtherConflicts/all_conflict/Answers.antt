use Rattle.std.proofs.Common.{sym, arith, ◌∙◌}
use Rattle.std.specs.List.{list_all}
use Rattle.clause_pool.proofs.Leads.{all_fails, all_pass}
use Rattle.conflict_reduce.specs.Others.{is_other_conflict}
use Rattle.conflict_reduce.proofs.facing.OtherConflicts.all_conflict.Goals as goal

pub returns-then-not-conflicts_with_each : goal.returns-then-not-conflicts_with_each
returns-then-not-conflicts_with_each c =
    sym (all_fails (λ m. list_all (is_other_conflict c.args.self.now m) c.args.other.now) c.args.list.now c.loop-number.number-index (omega arith)
    (sym c.conflicts_with_each.ensures ∙ c.if-not-conflicts_with_each.true))

pub returns : goal.returns
returns c =
    sym (all_pass (λ m. list_all (is_other_conflict c.args.self.now m) c.args.other.now) c.args.list.now (λ k l. c.loop-number.invariant k (omega arith)))
