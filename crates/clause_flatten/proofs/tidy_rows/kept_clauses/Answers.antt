use Rattle.std.proofs.{Common.{◌≡◌, ◌∙◌, ◌+◌, ◌++◌, ◌∷◌, [], ℕ, ap, append-nil, arith, cond, filter, sym, take}, lemmas.List.Elements.{filter_more}}
use Rattle.clause_pool.specs.Interned.{clause_at, clauses_at}
use Rattle.clause_families.specs.Inclusion.{stays}
use Rattle.listed.proofs.Lists.{item_in}
use Rattle.clause_flatten.proofs.tidy_rows.kept_clauses.Goals as goal
use Rattle.clause_flatten.proofs.tidy_rows.kept_clauses.Goals.{then-stays_in+in_ok-push, else-stays_in}

pub stays_in-requires-clause-id : goal.stays_in-requires-clause-id
stays_in-requires-clause-id c = c.requires.of_pool c.id-item.result (item_in c.args.row.now c.loop-id.id-index c.id-item.result (omega arith) c.id-item.is)

pub loop-id-preserved : goal.loop-id-preserved
loop-id-preserved c =
    let ids = c.args.row.now in
    let id = c.id-item.result in
    let left = λ (i : ℕ). stays c.args.number (clauses_at c.args.pool.now ids) (clause_at c.args.pool.now i) in
    let before = filter left (take c.loop-id.id-index ids) in
    let step : filter left (take (c.loop-id.id-index + 1) ids) ≡ before ++ cond (left id) (id ∷ []) [] =
    filter_more left ids c.loop-id.id-index id c.loop-id-test.true ∙ ap (λ z. before ++ cond (left z) (z ∷ []) []) (sym c.id-item.is) in
    elim c.if-stays_in.branch [
      | then-stays_in+in_ok-push w ↦
          ap (λ v. v.items) w.kept-is ∙ w.in_ok-push.ensures.items ∙ ap (λ xs. xs ++ id ∷ []) c.loop-id.invariant
          ∙ ap (λ b. before ++ cond b (id ∷ []) []) (sym w.if-stays_in.true ∙ c.stays_in.ensures)
          ∙ sym step
      | else-stays_in w ↦
          ap (λ v. v.items) w.kept-is ∙ c.loop-id.invariant ∙ sym (append-nil before)
          ∙ ap (λ b. before ++ cond b (id ∷ []) []) (sym w.if-stays_in.false ∙ c.stays_in.ensures)
          ∙ sym step
    ]
