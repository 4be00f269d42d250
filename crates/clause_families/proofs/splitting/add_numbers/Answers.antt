use Rattle.std.proofs.{Common.{inl, inr, refl, subst, sym}, lemmas.List.{take_all}}
use Rattle.listed.specs.Lists.{In}
use Rattle.listed.proofs.Lists.{In_append_left, In_append_right}
use Rattle.clause_families.specs.Counting.{HasNumbers}
use Rattle.clause_families.proofs.{Families.{At, at_item}, CountedRows.{taken_cases}}
use Rattle.clause_families.proofs.splitting.add_numbers.Goals as goal

pub loop-clause-preserved : goal.loop-clause-preserved
loop-clause-preserved c =
    let at : At c.args.family.now c.loop-clause.clause-index c.clause-item.result =
    at_item c.args.family.now c.loop-clause.clause-index c.clause-item.result c.clause-item.result c.loop-clause-test.true c.clause-item.is refl in
    record {
      all = λ d i n j. elim (taken_cases c.args.family.now c.loop-clause.clause-index c.clause-item.result d at i) [
        | inl k ↦ subst (λ z. In n z) (sym c.in_ok-extend_from_slice.ensures.items) (In_append_left c.loop-clause.numbers.items c.as_slice.result.now n (c.loop-clause.invariant.all d k n j))
        | inr e ↦ subst (λ z. In n z) (sym c.in_ok-extend_from_slice.ensures.items)
            (In_append_right c.loop-clause.numbers.items c.as_slice.result.now n (subst (λ z. In n z) (sym c.as_slice.ensures) (subst (λ z. In n z) e j)))
      ];
      stay = λ n i. subst (λ z. In n z) (sym c.in_ok-extend_from_slice.ensures.items) (In_append_left c.loop-clause.numbers.items c.as_slice.result.now n (c.loop-clause.invariant.stay n i));
    }

pub returns-clause-all : goal.returns-clause-all
returns-clause-all c = subst (λ z. HasNumbers z c.loop-clause.numbers.items) (take_all c.loop-clause.clause-index c.args.family.now c.loop-clause-test.false) c.loop-clause.invariant.all
