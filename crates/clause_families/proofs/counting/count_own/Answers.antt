use Rattle.std.proofs.{Common.{◌+◌, ◌∙◌, ap, arith, not, refl, subst, sym}, lemmas.List.{take_all}}
use Rattle.listed.specs.Lists.{Ascending}
use Rattle.listed.proofs.Lists.{item_in}
use Rattle.clause_families.specs.Counting.{own_count, unites}
use Rattle.clause_families.proofs.Families.{At, at_item, one_more, none_more}
use Rattle.clause_families.proofs.counting.count_own.Goals as goal
use Rattle.clause_families.proofs.counting.count_own.Goals.{then-not-is_united, else-not-is_united}

pub is_united-requires-clause-ascending : goal.is_united-requires-clause-ascending
is_united-requires-clause-ascending c =
    subst (λ z. Ascending z) (sym c.as_slice.ensures) (c.requires.ascending c.clause-item.result (item_in c.args.kept.now c.loop-clause.clause-index c.clause-item.result c.loop-clause-test.true c.clause-item.is))

pub loop-clause-preserved : goal.loop-clause-preserved
loop-clause-preserved c =
    let at : At c.args.kept.now c.loop-clause.clause-index c.clause-item.result =
    at_item c.args.kept.now c.loop-clause.clause-index c.clause-item.result c.clause-item.result c.loop-clause-test.true c.clause-item.is refl in
    elim c.if-not-is_united.branch [
      | then-not-is_united w ↦
          record {
            is = w.count-is ∙ ap (λ n. n + 1) c.loop-clause.invariant.is
                ∙ sym (one_more (λ d. not (unites c.args.parts.now.first.clauses.items c.args.parts.now.second.clauses.items d)) c.args.kept.now c.loop-clause.clause-index c.clause-item.result at
                (ap (λ z. not (unites c.args.parts.now.first.clauses.items c.args.parts.now.second.clauses.items z)) (sym c.as_slice.ensures) ∙ ap not (sym c.is_united.ensures ∙ w.if-not-is_united.true)));
            few = omega (arith, w.count-is, c.loop-clause.invariant.few);
          }
      | else-not-is_united w ↦
          record {
            is = w.count-is ∙ c.loop-clause.invariant.is
                ∙ sym (none_more (λ d. not (unites c.args.parts.now.first.clauses.items c.args.parts.now.second.clauses.items d)) c.args.kept.now c.loop-clause.clause-index c.clause-item.result at
                (ap (λ z. not (unites c.args.parts.now.first.clauses.items c.args.parts.now.second.clauses.items z)) (sym c.as_slice.ensures) ∙ ap not (sym c.is_united.ensures ∙ w.if-not-is_united.false)));
            few = omega (arith, w.count-is, c.loop-clause.invariant.few);
          }
    ]

pub returns : goal.returns
returns c =
    c.loop-clause.invariant.is
    ∙ ap (λ z. own_count z c.args.parts.now.first.clauses.items c.args.parts.now.second.clauses.items) (take_all c.loop-clause.clause-index c.args.kept.now c.loop-clause-test.false)
