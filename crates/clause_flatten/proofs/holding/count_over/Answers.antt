use Rattle.std.proofs.{Common.{◌≡◌, ◌<◌, ◌≤◌, ◌∙◌, ap, ap₂, length, subst, sym}, lemmas.List.{length-map}, lemmas.Result.{IfOk-weaker}}
use Rattle.clause_pool.specs.{Interned.{OfPool, clauses_at}, Clauses.{in_row_order}, Lists.{InOrder}}
use Rattle.listed.specs.Lists.{In}
use Rattle.row_book.specs.Book.{listed_for}
use Rattle.clause_flatten.specs.{Ready.{table_of}, Substitution.{length_in, table_row, table_without}, Holding.{over_limit}}
use Rattle.clause_families.specs.Unions.{substituted}
use Rattle.clause_families.proofs.Families.{clauses_length}
use Rattle.clause_flatten.proofs.{Runs.{other_without}, Turning.{lent_row}, WorkedRows.{lists_at}}
use Rattle.clause_flatten.proofs.holding.count_over.Goals as goal

pub row_over-requires-clause-row : goal.row_over-requires-clause-row
row_over-requires-clause-row c =
    subst (OfPool c.args.pool.now) (sym (lent_row c.args.rows.now c.args.user c.index-rows-user.result c.as_slice-row.result.now c.requires.user c.index-rows-user.is c.as_slice-row.ensures)) (c.requires.fit.of_pool c.args.user)

pub row_over-requires-clause-others : goal.row_over-requires-clause-others
row_over-requires-clause-others c =
    subst (OfPool c.args.pool.now) (sym (lent_row c.args.rows.now c.args.gone c.index-rows-gone.result c.as_slice-others.result.now c.requires.gone c.index-rows-gone.is c.as_slice-others.ensures)) (c.requires.fit.of_pool c.args.gone)

pub row_over-requires-clause-few : goal.row_over-requires-clause-few
row_over-requires-clause-few c =
    subst (λ n. n ≤ c.args.limit)
    (ap length (lists_at c.args.pool.now c.args.rows.now c.args.user) ∙ clauses_length c.args.pool.now (listed_for c.args.rows.now c.args.user)
    ∙ ap length (sym (lent_row c.args.rows.now c.args.user c.index-rows-user.result c.as_slice-row.result.now c.requires.user c.index-rows-user.is c.as_slice-row.ensures)))
    (c.requires.within c.args.user c.requires.user)

pub row_over-requires-clause-few_others : goal.row_over-requires-clause-few_others
row_over-requires-clause-few_others c =
    subst (λ n. n ≤ c.args.limit)
    (ap length (lists_at c.args.pool.now c.args.rows.now c.args.gone) ∙ clauses_length c.args.pool.now (listed_for c.args.rows.now c.args.gone)
    ∙ ap length (sym (lent_row c.args.rows.now c.args.gone c.index-rows-gone.result c.as_slice-others.result.now c.requires.gone c.index-rows-gone.is c.as_slice-others.ensures)))
    (c.requires.within c.args.gone c.requires.gone)

pub row_over-requires-clause-apart : goal.row_over-requires-clause-apart
row_over-requires-clause-apart c d i =
    c.requires.tidy.apart c.args.user d (subst (λ z. In d (clauses_at c.args.pool.now z)) (lent_row c.args.rows.now c.args.user c.index-rows-user.result c.as_slice-row.result.now c.requires.user c.index-rows-user.is c.as_slice-row.ensures) i)

pub row_over-requires-clause-minimal : goal.row_over-requires-clause-minimal
row_over-requires-clause-minimal c d e i j =
    let row : c.as_slice-row.result.now ≡ listed_for c.args.rows.now c.args.user =
    (lent_row c.args.rows.now c.args.user c.index-rows-user.result c.as_slice-row.result.now c.requires.user c.index-rows-user.is c.as_slice-row.ensures) in
    c.requires.tidy.minimal c.args.user d e (subst (λ z. In d (clauses_at c.args.pool.now z)) row i) (subst (λ z. In e (clauses_at c.args.pool.now z)) row j)

pub row_over-requires-clause-in_order : goal.row_over-requires-clause-in_order
row_over-requires-clause-in_order c =
    subst (λ z. InOrder (clauses_at c.args.pool.now z)) (sym (lent_row c.args.rows.now c.args.user c.index-rows-user.result c.as_slice-row.result.now c.requires.user c.index-rows-user.is c.as_slice-row.ensures)) (c.requires.fit.in_order c.args.user)

pub row_over-requires-clause-minimal_others : goal.row_over-requires-clause-minimal_others
row_over-requires-clause-minimal_others c d e i j =
    let others : c.as_slice-others.result.now ≡ listed_for c.args.rows.now c.args.gone =
    (lent_row c.args.rows.now c.args.gone c.index-rows-gone.result c.as_slice-others.result.now c.requires.gone c.index-rows-gone.is c.as_slice-others.ensures) in
    c.requires.tidy.minimal c.args.gone d e (subst (λ z. In d (clauses_at c.args.pool.now z)) others i) (subst (λ z. In e (clauses_at c.args.pool.now z)) others j)

pub returns : goal.returns
returns c =
    let row : c.as_slice-row.result.now ≡ listed_for c.args.rows.now c.args.user =
    (lent_row c.args.rows.now c.args.user c.index-rows-user.result c.as_slice-row.result.now c.requires.user c.index-rows-user.is c.as_slice-row.ensures) in
    let others : c.as_slice-others.result.now ≡ listed_for c.args.rows.now c.args.gone =
    (lent_row c.args.rows.now c.args.gone c.index-rows-gone.result c.as_slice-others.result.now c.requires.gone c.index-rows-gone.is c.as_slice-others.ensures) in
    let reads : table_row (table_without c.args.gone (table_of c.args.pool.now c.args.rows.now)) c.args.user
    ≡ in_row_order (substituted c.args.user c.args.gone (clauses_at c.args.pool.now (listed_for c.args.rows.now c.args.user)) (clauses_at c.args.pool.now (listed_for c.args.rows.now c.args.gone))) =
    other_without c.args.gone (table_of c.args.pool.now c.args.rows.now) c.args.user (subst (λ n. c.args.user < n) (sym (length-map c.args.rows.now (clauses_at c.args.pool.now))) c.requires.user) c.requires.other
    ∙ ap₂ (λ a b. in_row_order (substituted c.args.user c.args.gone a b)) (lists_at c.args.pool.now c.args.rows.now c.args.user) (lists_at c.args.pool.now c.args.rows.now c.args.gone) in
    IfOk-weaker c.row_over.result
    (λ over. over ≡ over_limit c.args.limit (length (in_row_order (substituted c.args.user c.args.gone (clauses_at c.args.pool.now c.as_slice-row.result.now) (clauses_at c.args.pool.now c.as_slice-others.result.now)))))
    (λ over. over ≡ over_limit c.args.limit (length_in (table_without c.args.gone (table_of c.args.pool.now c.args.rows.now)) c.args.user))
    (λ over e. e
    ∙ ap₂ (λ x y. over_limit c.args.limit (length (in_row_order (substituted c.args.user c.args.gone (clauses_at c.args.pool.now x) (clauses_at c.args.pool.now y))))) row others
    ∙ ap (λ r. over_limit c.args.limit (length r)) (sym reads))
    c.row_over.ensures
