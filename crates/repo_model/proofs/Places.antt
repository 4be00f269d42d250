-- A clause put into its place among clauses in order.
use Rattle.std.proofs.Common.{◌≡◌, ℕ, zero, suc, ◌<◌, ◌≤◌, ◌-◌, true, false, cond, List, [], ◌∷◌, ◌++◌, length, get_or, take, drop, refl, sym, ◌∙◌, ap, arith}
use Rattle.std.proofs.{lemmas.Bool.{cond-true, cond-false, false_from_ne_true}, lemmas.List.{get_or_default}}
use Rattle.clause_pool.specs.Clauses.{comes_before, insert_clause}
use Rattle.clause_pool.proofs.Order.{before_asym, before_test}

not_before : (c d : List ℕ) → comes_before d c ≡ true → comes_before c d ≡ false
not_before c d h = false_from_ne_true (comes_before c d) (λ t. before_asym c d (before_test c d t) (before_test d c h))

placed_past : (c d : List ℕ) (ds : List (List ℕ)) → comes_before d c ≡ true → insert_clause c (d ∷ ds) ≡ d ∷ insert_clause c ds
placed_past c d ds h =
    cond-false (comes_before c d) (c ∷ (d ∷ ds)) (cond (comes_before d c) (d ∷ insert_clause c ds) (d ∷ ds)) (not_before c d h)
    ∙ cond-true (comes_before d c) (d ∷ insert_clause c ds) (d ∷ ds) h

pub placed_same : (c : List ℕ) (ds : List (List ℕ)) (i : ℕ) → i < length ds → ((k : ℕ) → k < i → comes_before (get_or ds k []) c ≡ true) →
    comes_before (get_or ds i []) c ≡ false → comes_before c (get_or ds i []) ≡ false → ds ≡ insert_clause c ds
placed_same c [] i l b e f = absurd (omega arith)
placed_same c (d ∷ ds) zero l b e f =
    sym (cond-false (comes_before c d) (c ∷ (d ∷ ds)) (cond (comes_before d c) (d ∷ insert_clause c ds) (d ∷ ds)) f
    ∙ cond-false (comes_before d c) (d ∷ insert_clause c ds) (d ∷ ds) e)
placed_same c (d ∷ ds) (suc i) l b e f =
    ap (λ ys. d ∷ ys) (placed_same c ds i (omega arith) (λ k h. b (suc k) (omega arith)) e f) ∙ sym (placed_past c d ds (b 0 (omega arith)))

pub placed_new : (c : List ℕ) (ds : List (List ℕ)) (i : ℕ) → i ≤ length ds → ((k : ℕ) → k < i → comes_before (get_or ds k []) c ≡ true) →
    (i < length ds → comes_before c (get_or ds i []) ≡ true) → take i ds ++ (c ∷ drop i ds) ≡ insert_clause c ds
placed_new c [] zero l b s = refl
placed_new c [] (suc i) l b s = absurd (omega arith)
placed_new c (d ∷ ds) zero l b s = sym (cond-true (comes_before c d) (c ∷ (d ∷ ds)) (cond (comes_before d c) (d ∷ insert_clause c ds) (d ∷ ds)) (s (omega arith)))
placed_new c (d ∷ ds) (suc i) l b s =
    ap (λ ys. d ∷ ys) (placed_new c ds i (omega arith) (λ k h. b (suc k) (omega arith)) (λ h. s (omega arith))) ∙ sym (placed_past c d ds (b 0 (omega arith)))

pub same_clause : (row : List (List ℕ)) (n : ℕ) (c : List ℕ) → n < length row → c ≡ get_or row n c → c ≡ get_or row n []
same_clause row n c inside is = is ∙ get_or_default row n c [] inside
