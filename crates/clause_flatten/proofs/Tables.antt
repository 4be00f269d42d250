-- The one row in order, and the tables of rows.
use Rattle.std.proofs.Common.{◌≡◌, ℕ, ◌<◌, ◌≤◌, ◌+◌, eqb, cond, List, [], length, inl, inr, sym, ◌∙◌, ap, ap₂, subst, arith, map, eq-eqb, ne_eqb}
use Rattle.std.proofs.lemmas.Bool.{cases_eq}
use Rattle.row_book.specs.{Sets.{NumSet, without}, Repository.{Repository}, Numbers.{numbers, subsets}, Support.{IsRow, is_minimal_block, row}}
use Rattle.row_book.specs.{Sound.{OfPackages}, Flattening.{rows_over}}
use Rattle.clause_pool.specs.{Lists.{InOrder}, Clauses.{in_row_order}}
use Rattle.clause_flatten.specs.{Substitution.{table_without, table_row}, FlatLaws.{OneRow, RowComputes, RowIsOne, TableStep}}
use Rattle.clause_families.specs.Unions.{substituted}
use Rattle.row_book.proofs.{Sets.{without_parts}, Numbers.{at_numbers, length_numbers, map_same, numbers_parts, subsets_order}}
use Rattle.clause_pool.proofs.Order.{order_filter, order_same, ordered_has, ordered_order, ordered_parts}
use Rattle.clause_flatten.proofs.{Kept.{own_row_stays_lem}, Rows.{row_is}, Substituted.{substitutes_lem}}

pub row_order : (R : Repository) (V : NumSet) (p : ℕ) → InOrder (row R V p)
unfolding row
row_order R V p = order_filter (is_minimal_block R V p) (subsets (length R.clauses)) (subsets_order (length R.clauses))

pub row_computes_lem : RowComputes
row_computes_lem R V p bound = (row_is R V p bound, row_order R V p)

pub row_is_one_lem : RowIsOne
row_is_one_lem R V p rows bound r o =
    let s : IsRow R V p (row R V p) = row_is R V p bound in
    order_same rows (row R V p) o (row_order R V p) (λ T i. s.whole T (r.sound T i)) (λ T i. r.whole T (s.sound T i))

pub row_ordered : (R : Repository) (V : NumSet) (p : ℕ) (rows : List (List ℕ)) → IsRow R V p rows → IsRow R V p (in_row_order rows)
row_ordered R V p rows r = record {
  sound = λ T i. r.sound T (ordered_parts rows T i);
  whole = λ T l. ordered_has rows T (r.whole T l);
}

pub less_bound : (R : Repository) (V : NumSet) (q : ℕ) → OfPackages R V → OfPackages R (without V q)
less_bound R V q bound n h = bound n (without_parts V q n h).0

pub one_row_lem : OneRow
one_row_lem R V p q bound p_in q_v ne =
    let A : List (List ℕ) = row R V p in
    let B : List (List ℕ) = row R V q in
    row_is_one_lem R (without V q) p (in_row_order (substituted p q A B)) (less_bound R V q bound)
    (row_ordered R (without V q) p (substituted p q A B) (substitutes_lem R V p q A B bound p_in q_v ne (row_is R V p bound) (row_is R V q bound)))
    (ordered_order (substituted p q A B))

pub own_row : (R : Repository) (V : NumSet) (q : ℕ) → OfPackages R V → row R V q ≡ row R (without V q) q
own_row R V q bound =
    row_is_one_lem R (without V q) q (row R V q) (less_bound R V q bound) (own_row_stays_lem R V q (row R V q) (row_is R V q bound)) (row_order R V q)

pub table_at : (R : Repository) (V : NumSet) (p : ℕ) → p < length R.clauses → table_row (rows_over R V) p ≡ row R V p
unfolding rows_over
table_at R V p l = at_numbers (row R V) [] (length R.clauses) 0 p l ∙ ap (row R V) (omega arith)

pub table_length : (R : Repository) (V : NumSet) → length (rows_over R V) ≡ length R.clauses
unfolding rows_over
table_length R V = length_numbers (row R V) (length R.clauses) 0

pub table_step_lem : TableStep
unfolding table_without rows_over
table_step_lem R V q bound q_v =
    let size : ℕ = length R.clauses in
    let t : List (List (List ℕ)) = rows_over R V in
    let new : ℕ → List (List ℕ) = λ p. cond (eqb p q) (table_row t q) (in_row_order (substituted p q (table_row t p) (table_row t q))) in
    let at : (p : ℕ) → p < size → new p ≡ row R (without V q) p =
    λ p l. elim (cases_eq p q) [
      | inl e ↦
          subst (λ b. cond b (table_row t q) (in_row_order (substituted p q (table_row t p) (table_row t q))) ≡ row R (without V q) p) (sym (eq-eqb p q e))
          (table_at R V q (bound q q_v) ∙ own_row R V q bound ∙ ap (row R (without V q)) (sym e))
      | inr ne ↦
          subst (λ b. cond b (table_row t q) (in_row_order (substituted p q (table_row t p) (table_row t q))) ≡ row R (without V q) p) (sym (ne_eqb p q ne))
          (ap₂ (λ a b. in_row_order (substituted p q a b)) (table_at R V p l) (table_at R V q (bound q q_v)) ∙ one_row_lem R V p q bound l q_v ne)
    ] in
    ap (λ n. map new (numbers n 0)) (table_length R V)
    ∙ map_same new (row R (without V q)) (numbers size 0) (λ p i. at p (let w : (0 ≤ p) × (p < 0 + size) = numbers_parts size 0 p i in omega arith))
