use Rattle.std.proofs.{Common.{ap, sym, ◌∙◌, subst, refl, not, filter, take, ◌+◌}, lemmas.List.{take_all}}
use Rattle.listed.specs.Lists.{Ascending}
use Rattle.clause_pool.specs.Interned.{IsIdOf}
use Rattle.clause_pool.proofs.Interned.{kept_along}
use Rattle.listed.proofs.Lists.{item_in}
use Rattle.clause_families.specs.{Inclusion.{has_shorter}, Families.{InternedSoFar}}
use Rattle.clause_families.proofs.Families.{At, at_item, interned_less, interned_more, lowest_minimal}
use Rattle.clause_families.proofs.family.minimal_ids.Goals as goal
use Rattle.clause_families.proofs.family.minimal_ids.Goals.{then-not-is_longer+in_ok-id+in_ok-push, else-not-is_longer}

pub is_longer-requires-clause-ascending : goal.is_longer-requires-clause-ascending
is_longer-requires-clause-ascending c =
    subst (λ z. Ascending z) (sym c.as_slice.ensures) (c.requires.ascending c.clause-item.result (item_in c.args.family.now c.loop-clause.clause-index c.clause-item.result c.loop-clause-test.true c.clause-item.is))

pub intern-requires : goal.intern-requires
intern-requires c =
    subst (λ z. Ascending z) (sym c.as_slice-then-not-is_longer.ensures) (c.requires.ascending c.clause-item.result (item_in c.args.family.now c.loop-clause.clause-index c.clause-item.result c.loop-clause-test.true c.clause-item.is))

pub returns-in_err-push-clause-kept : goal.returns-in_err-push-clause-kept
returns-in_err-push-clause-kept c = kept_along c.args.pool.now c.loop-clause.pool c.intern.new.self c.loop-clause.invariant.kept c.intern.ensures.kept

pub loop-clause-preserved : goal.loop-clause-preserved
loop-clause-preserved c =
    let at : At c.args.family.now c.loop-clause.clause-index c.clause-item.result =
    at_item c.args.family.now c.loop-clause.clause-index c.clause-item.result c.clause-item.result c.loop-clause-test.true c.clause-item.is refl in
    elim c.if-not-is_longer.branch [
      | then-not-is_longer+in_ok-id+in_ok-push w ↦
          subst (λ z. InternedSoFar c.args.pool.now z c.args.family.now (take (c.loop-clause.clause-index + 1) c.args.family.now) c.if-not-is_longer.ids.items) (sym w.pool-is)
          (interned_more c.args.pool.now c.loop-clause.pool w.intern.new.self c.args.family.now c.loop-clause.clause-index c.clause-item.result c.loop-clause.ids.items c.if-not-is_longer.ids.items w.in_ok-id.id at
          (ap (has_shorter c.args.family.now) (sym c.as_slice.ensures) ∙ sym c.is_longer.ensures ∙ w.if-not-is_longer.true) c.loop-clause.invariant w.intern.ensures.kept
          (subst (λ z. IsIdOf w.intern.new.self.clauses z w.in_ok-id.id) w.as_slice-then-not-is_longer.ensures w.in_ok-id.ensures.ok) (ap (λ z. z.items) w.ids-is ∙ w.in_ok-push.ensures.items))
      | else-not-is_longer w ↦
          subst (λ z. InternedSoFar c.args.pool.now z c.args.family.now (take (c.loop-clause.clause-index + 1) c.args.family.now) c.if-not-is_longer.ids.items) (sym w.pool-is)
          (subst (λ z. InternedSoFar c.args.pool.now c.loop-clause.pool c.args.family.now (take (c.loop-clause.clause-index + 1) c.args.family.now) z) (sym (ap (λ z. z.items) w.ids-is))
          (interned_less c.args.pool.now c.loop-clause.pool c.args.family.now c.loop-clause.clause-index c.clause-item.result c.loop-clause.ids.items at
          (ap (has_shorter c.args.family.now) (sym c.as_slice.ensures) ∙ sym c.is_longer.ensures ∙ w.if-not-is_longer.false) c.loop-clause.invariant))
    ]

pub returns-clause-ok : goal.returns-clause-ok
returns-clause-ok c = c.loop-clause.invariant.made ∙ ap (filter (λ clause. not (has_shorter c.args.family.now clause))) (take_all c.loop-clause.clause-index c.args.family.now c.loop-clause-test.false) ∙ lowest_minimal c.args.family.now c.requires.ascending
