-- The order of clauses, and families in order.
use Rattle.std.proofs.Common.{◌≡◌, ℕ, ◌≤◌, Bool, true, false, ◌&&◌, eqb, ltb, cond, List, [], ◌∷◌, ◌++◌, ◌⊎◌, inl, inr, refl, sym, ◌∙◌, ap, ap₂, subst, arith}
use Rattle.std.proofs.Common.{filter, eq-eqb, eqb-true}
use Rattle.std.proofs.lemmas.Bool.{both_ways, and_parts, and_from, or_cases, or_parts, false_from_ne_true, false≢true, ltb-true, ltb-false, lt-ltb, or_left}
use Rattle.std.proofs.lemmas.Bool.{or_right}
use Rattle.listed.specs.Lists.{In, here, there}
use Rattle.clause_pool.specs.{Lists.{Before, InOrder}, Clauses.{comes_before, insert_clause, in_row_order}}
use Rattle.listed.proofs.Lists.{In_cases, In_none, filter_cases, In_append_cases}

pub before_asym : (a b : List ℕ) → Before a b → Before b a → ⊥
before_asym [] [] f g = f
before_asym [] (y ∷ ys) f g = g
before_asym (x ∷ xs) [] f g = f
before_asym (x ∷ xs) (y ∷ ys) (inl l) (inl m) = omega arith
before_asym (x ∷ xs) (y ∷ ys) (inl l) (inr m) = let e : y ≡ x = m.0 in omega arith
before_asym (x ∷ xs) (y ∷ ys) (inr l) (inl m) = let e : x ≡ y = l.0 in omega arith
before_asym (x ∷ xs) (y ∷ ys) (inr l) (inr m) = before_asym xs ys l.1 m.1

-- lists in order with the same clauses are equal
pub order_same : (S T : List (List ℕ)) → InOrder S → InOrder T → ((c : List ℕ) → In c S → In c T) → ((c : List ℕ) → In c T → In c S) → S ≡ T
order_same [] [] a b f g = refl
order_same [] (t ∷ ts) a b f g = absurd (In_none (g t here))
order_same (s ∷ ss) [] a b f g = absurd (In_none (f s here))
order_same (s ∷ ss) (t ∷ ts) a b f g =
    let same : s ≡ t =
    elim (In_cases (f s here)) [
      | inl e ↦ e
      | inr i ↦ elim (In_cases (g t here)) [ inl e ↦ sym e | inr j ↦ absurd (before_asym t s (b.0 s i) (a.0 t j)) ]
    ] in
    let f2 : (c : List ℕ) → In c ss → In c ts = λ c i. elim (In_cases (f c (there i))) [
      | inl e ↦ let h : Before s c = a.0 c i in let k : Before t t = subst (λ x. Before x t) same (subst (λ x. Before s x) e h) in absurd (before_asym t t k k)
      | inr j ↦ j
    ] in
    let g2 : (c : List ℕ) → In c ts → In c ss = λ c i. elim (In_cases (g c (there i))) [
      | inl e ↦ let h : Before t c = b.0 c i in let k : Before s s = subst (λ x. Before x s) (sym same) (subst (λ x. Before t x) e h) in absurd (before_asym s s k k)
      | inr j ↦ j
    ] in
    ap (λ x. x ∷ ss) same ∙ ap (λ xs. t ∷ xs) (order_same ss ts a.1 b.1 f2 g2)

pub order_filter : (p : List ℕ → Bool) (cs : List (List ℕ)) → InOrder cs → InOrder (filter p cs)
order_filter p [] a = tt
order_filter p (c ∷ cs) a = keep (p c) (order_filter p cs a.1)
  where
    keep : (b : Bool) → InOrder (filter p cs) → InOrder (cond b (c ∷ filter p cs) (filter p cs))
    keep true o = ((λ d i. a.0 d (filter_cases p cs d i).0), o)
    keep false o = o

pub order_append : (xs ys : List (List ℕ)) → InOrder xs → InOrder ys → ((x y : List ℕ) → In x xs → In y ys → Before x y) → InOrder (xs ++ ys)
order_append [] ys a b f = b
order_append (x ∷ xs) ys a b f = (
  (λ d i. elim (In_append_cases xs ys d i) [ inl l ↦ a.0 d l | inr r ↦ f x d here r ]),
  order_append xs ys a.1 b (λ u v i j. f u v (there i) j),
)

-- clauses put in order
pub before_test : (c d : List ℕ) → comes_before c d ≡ true → Before c d
before_test [] [] h = false≢true h
before_test [] (y ∷ ys) h = tt
before_test (x ∷ xs) [] h = false≢true h
before_test (x ∷ xs) (y ∷ ys) h =
    elim (or_cases (ltb x y) (eqb x y && comes_before xs ys) h) [
      | inl l ↦ inl (ltb-true x y l)
      | inr e ↦ let w : (eqb x y ≡ true) × (comes_before xs ys ≡ true) = and_parts (eqb x y) (comes_before xs ys) e in
          inr (eqb-true x y w.0, before_test xs ys w.1)
    ]

pub neither_before : (c d : List ℕ) → comes_before c d ≡ false → comes_before d c ≡ false → c ≡ d
neither_before [] [] h k = refl
neither_before [] (y ∷ ys) h k = absurd (false≢true (sym h))
neither_before (x ∷ xs) [] h k = absurd (false≢true (sym k))
neither_before (x ∷ xs) (y ∷ ys) h k =
    let a : (ltb x y ≡ false) × ((eqb x y && comes_before xs ys) ≡ false) = or_parts (ltb x y) (eqb x y && comes_before xs ys) h in
    let b : (ltb y x ≡ false) × ((eqb y x && comes_before ys xs) ≡ false) = or_parts (ltb y x) (eqb y x && comes_before ys xs) k in
    let l : y ≤ x = ltb-false x y a.0 in
    let m : x ≤ y = ltb-false y x b.0 in
    let e : x ≡ y = omega arith in
    let same : xs ≡ ys = neither_before xs ys
    (false_from_ne_true (comes_before xs ys) (λ t. both_ways (eqb x y && comes_before xs ys) a.1 (and_from (eqb x y) (comes_before xs ys) (eq-eqb x y e) t)))
    (false_from_ne_true (comes_before ys xs) (λ t. both_ways (eqb y x && comes_before ys xs) b.1 (and_from (eqb y x) (comes_before ys xs) (eq-eqb y x (sym e)) t))) in
    ap₂ (λ z zs. z ∷ zs) e same

pub before_trans : (a b c : List ℕ) → Before a b → Before b c → Before a c
before_trans [] b [] f g = elim_end b f g
  where
    elim_end : (b : List ℕ) → Before [] b → Before b [] → ⊥
    elim_end [] u v = v
    elim_end (y ∷ ys) u v = v
before_trans [] b (z ∷ zs) f g = tt
before_trans (x ∷ xs) [] c f g = absurd f
before_trans (x ∷ xs) (y ∷ ys) [] f g = absurd g
before_trans (x ∷ xs) (y ∷ ys) (z ∷ zs) (inl l) (inl m) = inl (omega arith)
before_trans (x ∷ xs) (y ∷ ys) (z ∷ zs) (inl l) (inr m) = inl (let e : y ≡ z = m.0 in omega arith)
before_trans (x ∷ xs) (y ∷ ys) (z ∷ zs) (inr l) (inl m) = inl (let e : x ≡ y = l.0 in omega arith)
before_trans (x ∷ xs) (y ∷ ys) (z ∷ zs) (inr l) (inr m) = inr (l.0 ∙ m.0, before_trans xs ys zs l.1 m.1)

placed_cases : (c : List ℕ) (ds : List (List ℕ)) (x : List ℕ) → In x (insert_clause c ds) → (x ≡ c) ⊎ In x ds
placed_cases c [] x i = In_cases i
placed_cases c (d ∷ ds) x i = pick (comes_before c d) (comes_before d c) (placed_cases c ds x) i
  where
    pick : (s t : Bool) → (In x (insert_clause c ds) → (x ≡ c) ⊎ In x ds) → In x (cond s (c ∷ (d ∷ ds)) (cond t (d ∷ insert_clause c ds) (d ∷ ds))) → (x ≡ c) ⊎ In x (d ∷ ds)
    pick true t f j = In_cases j
    pick false true f j = elim (In_cases j) [ inl e ↦ inr (subst (λ z. In x (z ∷ ds)) e here) | inr l ↦ elim (f l) [ inl e ↦ inl e | inr r ↦ inr (there r) ] ]
    pick false false f j = inr j

placed_old : (c : List ℕ) (ds : List (List ℕ)) (x : List ℕ) → In x ds → In x (insert_clause c ds)
placed_old c [] x i = absurd (In_none i)
placed_old c (d ∷ ds) x i = pick (comes_before c d) (comes_before d c) (placed_old c ds x)
  where
    pick : (s t : Bool) → (In x ds → In x (insert_clause c ds)) → In x (cond s (c ∷ (d ∷ ds)) (cond t (d ∷ insert_clause c ds) (d ∷ ds)))
    pick true t f = there i
    pick false true f = elim (In_cases i) [ inl e ↦ subst (λ z. In x (z ∷ insert_clause c ds)) e here | inr j ↦ there (f j) ]
    pick false false f = i

pub placed_new : (c : List ℕ) (ds : List (List ℕ)) → In c (insert_clause c ds)
placed_new c [] = here
placed_new c (d ∷ ds) = pick (comes_before c d) (comes_before d c) refl refl (placed_new c ds)
  where
    pick : (s t : Bool) → comes_before c d ≡ s → comes_before d c ≡ t → In c (insert_clause c ds) → In c (cond s (c ∷ (d ∷ ds)) (cond t (d ∷ insert_clause c ds) (d ∷ ds)))
    pick true t u v f = here
    pick false true u v f = there f
    pick false false u v f = subst (λ z. In c (z ∷ ds)) (neither_before c d u v) here

placed_order : (c : List ℕ) (ds : List (List ℕ)) → InOrder ds → InOrder (insert_clause c ds)
placed_order c [] a = ((λ d i. absurd (In_none i)), tt)
placed_order c (d ∷ ds) a = pick (comes_before c d) (comes_before d c) refl refl (placed_order c ds a.1)
  where
    pick : (s t : Bool) → comes_before c d ≡ s → comes_before d c ≡ t → InOrder (insert_clause c ds) → InOrder (cond s (c ∷ (d ∷ ds)) (cond t (d ∷ insert_clause c ds) (d ∷ ds)))
    pick true t u v f =
        let l : Before c d = before_test c d u in
        ((λ x i. elim (In_cases i) [ inl e ↦ subst (λ z. Before c z) (sym e) l | inr j ↦ before_trans c d x l (a.0 x j) ]), a)
    pick false true u v f =
        ((λ x i. elim (placed_cases c ds x i) [ inl e ↦ subst (λ z. Before d z) (sym e) (before_test d c v) | inr j ↦ a.0 x j ]), f)
    pick false false u v f = a

pub ordered_order : (cs : List (List ℕ)) → InOrder (in_row_order cs)
ordered_order [] = tt
ordered_order (c ∷ cs) = placed_order c (in_row_order cs) (ordered_order cs)

pub ordered_parts : (cs : List (List ℕ)) (x : List ℕ) → In x (in_row_order cs) → In x cs
ordered_parts [] x i = absurd (In_none i)
ordered_parts (c ∷ cs) x i = elim (placed_cases c (in_row_order cs) x i) [ inl e ↦ subst (λ z. In x (z ∷ cs)) e here | inr j ↦ there (ordered_parts cs x j) ]

pub ordered_has : (cs : List (List ℕ)) (x : List ℕ) → In x cs → In x (in_row_order cs)
ordered_has [] x i = absurd (In_none i)
ordered_has (c ∷ cs) x i =
    elim (In_cases i) [
      | inl e ↦ subst (λ z. In z (insert_clause c (in_row_order cs))) (sym e) (placed_new c (in_row_order cs))
      | inr j ↦ placed_old c (in_row_order cs) x (ordered_has cs x j)
    ]

-- the test of the order
pub before_is : (a b : List ℕ) → Before a b → comes_before a b ≡ true
before_is [] [] f = absurd f
before_is [] (y ∷ ys) f = refl
before_is (x ∷ xs) [] f = absurd f
before_is (x ∷ xs) (y ∷ ys) (inl l) = or_left (ltb x y) (eqb x y && comes_before xs ys) (lt-ltb x y l)
before_is (x ∷ xs) (y ∷ ys) (inr e) = or_right (ltb x y) (eqb x y && comes_before xs ys) (and_from (eqb x y) (comes_before xs ys) (eq-eqb x y e.0) (before_is xs ys e.1))
