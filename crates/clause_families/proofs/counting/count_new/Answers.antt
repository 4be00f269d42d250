use Rattle.std.proofs.{Common.{◌+◌, ◌∙◌, ap, arith, filter, length, refl, subst, sym}, lemmas.List.{take_all}}
use Rattle.listed.specs.Lists.{Ascending}
use Rattle.listed.proofs.Lists.{item_in}
use Rattle.clause_families.specs.Counting.{is_new}
use Rattle.clause_families.proofs.Families.{At, at_item, one_more, none_more}
use Rattle.clause_families.proofs.counting.count_new.Goals as goal
use Rattle.clause_families.proofs.counting.count_new.Goals.{then-new, else-new}

pub is_new-requires-clause-ascending : goal.is_new-requires-clause-ascending
is_new-requires-clause-ascending c =
    subst (λ z. Ascending z) (sym c.as_slice.ensures) (c.requires.rising c.union-item.result (item_in c.args.unions.now c.loop-union.union-index c.union-item.result c.loop-union-test.true c.union-item.is))

pub loop-union-preserved : goal.loop-union-preserved
loop-union-preserved c =
    let at : At c.args.unions.now c.loop-union.union-index c.union-item.result =
    at_item c.args.unions.now c.loop-union.union-index c.union-item.result c.union-item.result c.loop-union-test.true c.union-item.is refl in
    elim c.if-new.branch [
      | then-new w ↦
          record {
            is = λ rest t. w.count-is ∙ ap (λ n. n + 1) (c.loop-union.invariant.is rest t)
                ∙ sym (one_more (is_new c.args.parts.now.kept.clauses.items c.args.parts.now.first.clauses.items c.args.parts.now.second.clauses.items rest) c.args.unions.now c.loop-union.union-index c.union-item.result at
                (ap (is_new c.args.parts.now.kept.clauses.items c.args.parts.now.first.clauses.items c.args.parts.now.second.clauses.items rest) (sym c.as_slice.ensures) ∙ sym (c.in_ok-new.ensures rest t) ∙ w.if-new.true));
            few = omega (arith, w.count-is, c.loop-union.invariant.few);
          }
      | else-new w ↦
          record {
            is = λ rest t. w.count-is ∙ c.loop-union.invariant.is rest t
                ∙ sym (none_more (is_new c.args.parts.now.kept.clauses.items c.args.parts.now.first.clauses.items c.args.parts.now.second.clauses.items rest) c.args.unions.now c.loop-union.union-index c.union-item.result at
                (ap (is_new c.args.parts.now.kept.clauses.items c.args.parts.now.first.clauses.items c.args.parts.now.second.clauses.items rest) (sym c.as_slice.ensures) ∙ sym (c.in_ok-new.ensures rest t) ∙ w.if-new.false));
            few = omega (arith, w.count-is, c.loop-union.invariant.few);
          }
    ]

pub returns : goal.returns
returns c rest t =
    c.loop-union.invariant.is rest t
    ∙ ap (λ z. length (filter (is_new c.args.parts.now.kept.clauses.items c.args.parts.now.first.clauses.items c.args.parts.now.second.clauses.items rest) z))
    (take_all c.loop-union.union-index c.args.unions.now c.loop-union-test.false)
