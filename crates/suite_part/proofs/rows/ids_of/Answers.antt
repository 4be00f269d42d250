use Rattle.std.proofs.Common.{refl, subst, sym}
use Rattle.listed.proofs.Lists.{item_in}
use Rattle.listed.specs.Lists.{Ascending}
use Rattle.clause_pool.specs.Interned.{IsIdOf}
use Rattle.clause_pool.proofs.Interned.{kept_along}
use Rattle.clause_families.proofs.Families.{at_item}
use Rattle.suite_part.proofs.Parted.{more_interned}
use Rattle.suite_part.proofs.rows.ids_of.Goals as goal

pub intern-requires : goal.intern-requires
intern-requires c =
    subst (λ z. Ascending z) (sym c.as_slice.ensures) (c.requires c.clause-item.result (item_in c.args.family.now c.loop-clause.clause-index c.clause-item.result c.loop-clause-test.true c.clause-item.is))

pub returns-in_err-push-clause-kept : goal.returns-in_err-push-clause-kept
returns-in_err-push-clause-kept c = kept_along c.args.pool.now c.loop-clause.pool c.intern.new.self c.loop-clause.invariant.kept c.intern.ensures.kept

pub loop-clause-preserved : goal.loop-clause-preserved
loop-clause-preserved c =
    more_interned c.args.pool.now c.loop-clause.pool c.intern.new.self c.args.family.now c.loop-clause.clause-index c.clause-item.result c.loop-clause.ids.items c.push.new.self.items c.in_ok-intern.field-0
    (at_item c.args.family.now c.loop-clause.clause-index c.clause-item.result c.clause-item.result c.loop-clause-test.true c.clause-item.is refl)
    c.loop-clause.invariant c.intern.ensures.kept (subst (λ z. IsIdOf c.intern.new.self.clauses z c.in_ok-intern.field-0) c.as_slice.ensures c.in_ok-intern.ensures.ok) c.in_ok-push.ensures.items
