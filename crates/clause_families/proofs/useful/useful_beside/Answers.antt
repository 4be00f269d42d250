use Rattle.std.proofs.{Common.{ap, sym, ◌∙◌, subst, inl, inr}, lemmas.Bool.{OnTrue_at, both_ways}}
use Rattle.listed.specs.Lists.{In}
use Rattle.listed.proofs.Lists.{In_has, has_In}
use Rattle.clause_families.specs.Families.{HoldsOneOf}
use Rattle.clause_families.proofs.Families.{of_pool_item, useful_less, useful_more}
use Rattle.clause_families.proofs.useful.useful_beside.Goals as goal
use Rattle.clause_families.proofs.useful.useful_beside.Goals.{then-not-holds_ascending+then-not-holds_one_of+in_ok-push, else-not-holds_ascending}
use Rattle.clause_families.proofs.useful.useful_beside.Goals.{else-not-holds_ascending-via-then-not-holds_ascending+else-not-holds_one_of}
use Rattle.clause_families.proofs.useful.useful_beside.Goals.{else-not-holds_ascending-via-else-not-holds_ascending}

pub slice-clause-requires : goal.slice-clause-requires
slice-clause-requires c = of_pool_item c.args.pool.now c.args.others.now c.loop-id.id-index c.id-item.result c.requires c.loop-id-test.true c.id-item.is

pub loop-id-preserved : goal.loop-id-preserved
loop-id-preserved c =
    elim c.if-not-holds_ascending.branch [
      | then-not-holds_ascending+then-not-holds_one_of+in_ok-push w ↦
          useful_more c.args.pool.now c.args.user (HoldsOneOf c.args.singles.now) c.args.others.now c.loop-id.id-index c.id-item.result c.loop-id.useful.items c.if-not-holds_ascending.useful.items
          c.loop-id-test.true c.id-item.is
          (λ j. both_ways c.holds_ascending.result w.if-not-holds_ascending.true (c.holds_ascending.ensures ∙ In_has (subst (λ z. In c.args.user z) (sym c.slice-clause.ensures.lent) j)))
          c.loop-id.invariant (ap (λ z. z.items) w.useful-is ∙ w.in_ok-push.ensures.items)
      | else-not-holds_ascending w ↦ elim w.else-not-holds_ascending.branch [
        | else-not-holds_ascending-via-then-not-holds_ascending+else-not-holds_one_of v ↦
            useful_less c.args.pool.now c.args.user (HoldsOneOf c.args.singles.now) c.args.others.now c.loop-id.id-index c.id-item.result c.loop-id.useful.items c.if-not-holds_ascending.useful.items
            c.loop-id-test.true c.id-item.is
            (inr (subst (λ z. HoldsOneOf c.args.singles.now z) c.slice-clause.ensures.lent (OnTrue_at v.if-not-holds_one_of.false v.holds_one_of.ensures)))
            c.loop-id.invariant (ap (λ z. z.items) w.useful-is)
        | else-not-holds_ascending-via-else-not-holds_ascending v ↦
            useful_less c.args.pool.now c.args.user (HoldsOneOf c.args.singles.now) c.args.others.now c.loop-id.id-index c.id-item.result c.loop-id.useful.items c.if-not-holds_ascending.useful.items
            c.loop-id-test.true c.id-item.is
            (inl (subst (λ z. In c.args.user z) c.slice-clause.ensures.lent (has_In c.slice-clause.result.now c.args.user (sym c.holds_ascending.ensures ∙ v.if-not-holds_ascending.false))))
            c.loop-id.invariant (ap (λ z. z.items) w.useful-is)
      ]
    ]
