use Rattle.std.proofs.{Common.{ap, sym, ◌∙◌, cond, [], ◌∷◌, List, ℕ}, lemmas.Bool.{cond-true, cond-false}}
use Rattle.clause_pool.specs.Interned.{clauses_at}
use Rattle.listed.specs.Lists.{has}
use Rattle.clause_families.specs.Unions.{clause_without}
use Rattle.clause_families.proofs.Families.{At, at_clause, flat_push, flat_skip, of_pool_item}
use Rattle.clause_families.proofs.splitting.add_holders.Goals as goal
use Rattle.clause_families.proofs.splitting.add_holders.Goals.{then-holds_ascending+in_ok-without+in_ok-push, else-holds_ascending}

pub slice-clause-requires : goal.slice-clause-requires
slice-clause-requires c = of_pool_item c.args.pool.now c.args.row.now c.loop-id.id-index c.id-item.result c.requires c.loop-id-test.true c.id-item.is

pub loop-id-preserved : goal.loop-id-preserved
loop-id-preserved c =
    let at : At (clauses_at c.args.pool.now c.args.row.now) c.loop-id.id-index c.slice-clause.result.now =
    at_clause c.args.pool.now c.args.row.now c.loop-id.id-index c.id-item.result c.slice-clause.result.now c.loop-id-test.true c.id-item.is c.slice-clause.ensures.lent in
    let made : List (List ℕ) = clause_without c.args.number c.slice-clause.result.now ∷ [] in
    elim c.if-holds_ascending.branch [
      | then-holds_ascending+in_ok-without+in_ok-push w ↦
          flat_push (λ clause. cond (has clause c.args.number) (clause_without c.args.number clause ∷ []) []) (clauses_at c.args.pool.now c.args.row.now) c.loop-id.id-index c.slice-clause.result.now (w.in_ok-without.field-0 ∷ [])
          c.args.family.now.items c.loop-id.family.items c.if-holds_ascending.family.items at c.loop-id.invariant
          (ap (λ z. z ∷ []) w.in_ok-without.ensures ∙ sym (cond-true (has c.slice-clause.result.now c.args.number) made [] (sym c.holds_ascending.ensures ∙ w.if-holds_ascending.true)))
          (ap (λ z. z.items) w.family-is ∙ w.in_ok-push.ensures.items)
      | else-holds_ascending w ↦
          flat_skip (λ clause. cond (has clause c.args.number) (clause_without c.args.number clause ∷ []) []) (clauses_at c.args.pool.now c.args.row.now) c.loop-id.id-index c.slice-clause.result.now
          c.args.family.now.items c.loop-id.family.items c.if-holds_ascending.family.items at c.loop-id.invariant
          (cond-false (has c.slice-clause.result.now c.args.number) made [] (sym c.holds_ascending.ensures ∙ w.if-holds_ascending.false))
          (ap (λ z. z.items) w.family-is)
    ]
