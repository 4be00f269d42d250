use Rattle.std.proofs.{Common.{ap, sym, ◌∙◌, subst, inl, inr}, lemmas.Bool.{OnTrue_at, both_ways}}
use Rattle.clause_pool.specs.{Interned.{clauses_at}, Clauses.{apart_from}}
use Rattle.listed.specs.Lists.{In}
use Rattle.listed.proofs.Lists.{In_has, has_In}
use Rattle.clause_families.specs.Families.{IncludesOneOf}
use Rattle.clause_families.proofs.Families.{of_pool_item, useful_less, useful_more}
use Rattle.clause_families.proofs.useful.fresh_of.Goals as goal
use Rattle.clause_families.proofs.useful.fresh_of.Goals.{then-not-holds_ascending+then-not-stands_at+in_ok-push, else-not-holds_ascending}
use Rattle.clause_families.proofs.useful.fresh_of.Goals.{else-not-holds_ascending-via-then-not-holds_ascending+else-not-stands_at}
use Rattle.clause_families.proofs.useful.fresh_of.Goals.{else-not-holds_ascending-via-else-not-holds_ascending}

pub slice-clause-requires : goal.slice-clause-requires
slice-clause-requires c = of_pool_item c.args.pool.now c.args.others.now c.loop-id.id-index c.id-item.result c.requires.others c.loop-id-test.true c.id-item.is

pub stands_at-requires : goal.stands_at-requires
stands_at-requires c = of_pool_item c.args.pool.now c.args.others.now c.loop-id.id-index c.id-item.result c.requires.others c.loop-id-test.true c.id-item.is

pub loop-id-preserved : goal.loop-id-preserved
loop-id-preserved c =
    elim c.if-not-holds_ascending.branch [
      | then-not-holds_ascending+then-not-stands_at+in_ok-push w ↦
          useful_more c.args.pool.now c.args.user (IncludesOneOf (apart_from c.args.spent (clauses_at c.args.pool.now c.args.row.now))) c.args.others.now c.loop-id.id-index c.id-item.result c.loop-id.fresh.items c.if-not-holds_ascending.fresh.items
          c.loop-id-test.true c.id-item.is
          (λ j. both_ways c.holds_ascending.result w.if-not-holds_ascending.true (c.holds_ascending.ensures ∙ In_has (subst (λ z. In c.args.user z) (sym c.slice-clause.ensures.lent) j)))
          c.loop-id.invariant (ap (λ z. z.items) w.fresh-is ∙ w.in_ok-push.ensures.items)
      | else-not-holds_ascending w ↦ elim w.else-not-holds_ascending.branch [
        | else-not-holds_ascending-via-then-not-holds_ascending+else-not-stands_at v ↦
            useful_less c.args.pool.now c.args.user (IncludesOneOf (apart_from c.args.spent (clauses_at c.args.pool.now c.args.row.now))) c.args.others.now c.loop-id.id-index c.id-item.result c.loop-id.fresh.items c.if-not-holds_ascending.fresh.items
            c.loop-id-test.true c.id-item.is
            (inr (OnTrue_at v.if-not-stands_at.false v.stands_at.ensures))
            c.loop-id.invariant (ap (λ z. z.items) w.fresh-is)
        | else-not-holds_ascending-via-else-not-holds_ascending v ↦
            useful_less c.args.pool.now c.args.user (IncludesOneOf (apart_from c.args.spent (clauses_at c.args.pool.now c.args.row.now))) c.args.others.now c.loop-id.id-index c.id-item.result c.loop-id.fresh.items c.if-not-holds_ascending.fresh.items
            c.loop-id-test.true c.id-item.is
            (inl (subst (λ z. In c.args.user z) c.slice-clause.ensures.lent (has_In c.slice-clause.result.now c.args.user (sym c.holds_ascending.ensures ∙ v.if-not-holds_ascending.false))))
            c.loop-id.invariant (ap (λ z. z.items) w.fresh-is)
      ]
    ]
