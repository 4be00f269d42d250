use Rattle.std.proofs.Common.{sym, arith, ◌∙◌}
use Rattle.clause_pool.proofs.Leads.{all_fails, all_pass}
use Rattle.conflict_reduce.specs.Others.{is_other_conflict}
use Rattle.conflict_reduce.proofs.facing.OtherConflicts.conflicts_with_each.Goals as goal

pub returns-then-not-conflict : goal.returns-then-not-conflict
returns-then-not-conflict c =
    sym (all_fails (is_other_conflict c.args.self.now c.args.number) c.args.list.now c.loop-member.member-index (omega arith)
    (sym c.conflict.ensures ∙ c.if-not-conflict.true))

pub returns : goal.returns
returns c = sym (all_pass (is_other_conflict c.args.self.now c.args.number) c.args.list.now (λ k l. c.loop-member.invariant k (omega arith)))
