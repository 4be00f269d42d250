-- Sorted names, each taken once.
use Rattle.std.proofs.Common.{◌≡◌, ◌≢◌, ℕ, ◌<◌, ◌+◌, ◌-◌, true, false, ◌&&◌, nat_lt, List, [], ◌∷◌, ◌++◌, length, get_or, map, refl, sym, ap, subst, ◌∙◌, arith}
use Rattle.std.proofs.{Common.{inl, inr, Bor}, lemmas.Bool.{cases_Bool, cases_eq, and_from, and_parts, lt-ltb, ltb-true, false≢true}}
use Rattle.std.proofs.{lemmas.Slice.Eq.{bytes_eq-Decides}, lemmas.Cmp.{nat_list_cmp_total}, lemmas.List.{get_or-map, length-map}}
use Rattle.std.proofs.lemmas.List.Sorted.{ranks_by, sorted_far, IsPermutation-map, IsPermutation-sym, Contains-permutation}
use Rattle.std.specs.{List.Sorted.{IsPermutation, IsSorted}, Ordering.{nat_cmp, is_lt}, Cmp.Lexicographic.{slice_cmp}, Str.{bytes_eq}}
use Rattle.clause_pool.specs.{Lists.{Before, InOrder}, Clauses.{comes_before, in_row_order}}
use Rattle.listed.specs.Lists.{In, here}
use Rattle.listed.proofs.Lists.{In_cases, In_none, In_append_cases, In_append_left, In_append_right}
use Rattle.clause_pool.proofs.Order.{before_test, neither_before, order_append, order_same, ordered_order, ordered_parts, ordered_has}
use Rattle.clause_pool.proofs.Compared.{before_compared}
use Rattle.repo_model.specs.NameOrder.{name_at, Rising, is_repeated}
use Rattle.repo_model.proofs.Elements.{at_place, place_of}

-- of the names below a place each is taken once, and they are in order
pub record IsTaken (sorted : List (List ℕ)) (place : ℕ) (taken : List (List ℕ)) : Type 0 where
  pub order : InOrder taken
  pub inside : (name : List ℕ) → In name taken → (i : ℕ) × (i < place) × (name ≡ name_at sorted i)
  pub all : (i : ℕ) → i < place → In (name_at sorted i) taken

pub taken_none : (sorted taken : List (List ℕ)) → taken ≡ [] → IsTaken sorted 0 taken
taken_none sorted taken e = subst (IsTaken sorted 0) (sym e) record {
  order = tt;
  inside = λ name i. absurd (In_none i);
  all = λ i l. absurd (omega arith);
}

differing : (a b : List ℕ) (place : ℕ) → 0 < place → (nat_lt 0 place && bytes_eq a b) ≡ false → a ≢ b
differing a b place l new e = false≢true (sym new ∙ and_from (nat_lt 0 place) (bytes_eq a b) (lt-ltb 0 place l) ((bytes_eq-Decides a b).1 e))

same_names : (a b : List ℕ) (place : ℕ) → (nat_lt 0 place && bytes_eq a b) ≡ true → (0 < place) × (a ≡ b)
same_names a b place again =
    let parts = and_parts (nat_lt 0 place) (bytes_eq a b) again in (ltb-true 0 place parts.0, (bytes_eq-Decides a b).0 parts.1)

-- the name at a place does not stand in front of it, so each name in front comes before it
front_before : (sorted : List (List ℕ)) (place i : ℕ) → Rising sorted → place < length sorted → is_repeated sorted place ≡ false → i < place →
    Before (name_at sorted i) (name_at sorted place)
front_before sorted place i rising within new l = elim (cases_Bool (comes_before (name_at sorted i) (name_at sorted place))) [
  | inl t ↦ before_test (name_at sorted i) (name_at sorted place) t
  | inr n ↦
      let same : name_at sorted i ≡ name_at sorted place = neither_before (name_at sorted i) (name_at sorted place) n (rising i place (omega arith) within) in
      let front : comes_before (name_at sorted (place - 1)) (name_at sorted place) ≡ false =
      subst (λ name. comes_before (name_at sorted (place - 1)) name ≡ false) same (rising i (place - 1) (omega arith) (omega arith)) in
      absurd (differing (name_at sorted (place - 1)) (name_at sorted place) place (omega arith) new
      (neither_before (name_at sorted (place - 1)) (name_at sorted place) front (rising (place - 1) place (omega arith) within)))
]

pub taken_more : (sorted taken new : List (List ℕ)) (place : ℕ) → Rising sorted → place < length sorted → is_repeated sorted place ≡ false →
    IsTaken sorted place taken → new ≡ taken ++ name_at sorted place ∷ [] → IsTaken sorted (place + 1) new
taken_more sorted taken new place rising within fresh h e = subst (IsTaken sorted (place + 1)) (sym e) record {
  order = order_append taken (name_at sorted place ∷ []) h.order ((λ d i. absurd (In_none i)), tt)
      (λ x y i j. let w = h.inside x i in elim (In_cases j) [
        | inl s ↦ subst (λ z. Before x z) (sym s) (subst (λ z. Before z (name_at sorted place)) (sym w.2) (front_before sorted place w.0 rising within fresh w.1))
        | inr none ↦ absurd (In_none none)
      ]);
  inside = λ name i. elim (In_append_cases taken (name_at sorted place ∷ []) name i) [
    | inl l ↦ let w = h.inside name l in let below : w.0 < place + 1 = omega (arith, w.1) in (w.0, below, w.2)
    | inr r ↦ elim (In_cases r) [ inl s ↦ (place, omega arith, s) | inr none ↦ absurd (In_none none) ]
  ];
  all = λ i l. elim (cases_eq i place) [
    | inl s ↦ subst (λ k. In (name_at sorted k) (taken ++ name_at sorted place ∷ [])) (sym s) (In_append_right taken (name_at sorted place ∷ []) (name_at sorted place) here)
    | inr other ↦ In_append_left taken (name_at sorted place ∷ []) (name_at sorted i) (h.all i (omega (arith, other)))
  ];
}

pub taken_again : (sorted taken : List (List ℕ)) (place : ℕ) → is_repeated sorted place ≡ true → IsTaken sorted place taken → IsTaken sorted (place + 1) taken
taken_again sorted taken place again h = record {
  order = h.order;
  inside = λ name i. let w = h.inside name i in let below : w.0 < place + 1 = omega (arith, w.1) in (w.0, below, w.2);
  all = λ i l. elim (cases_eq i place) [
    | inl s ↦ let w = same_names (name_at sorted (place - 1)) (name_at sorted place) place again in
        subst (λ name. In name taken) (w.1 ∙ ap (name_at sorted) (sym s)) (h.all (place - 1) (omega (arith, w.0)))
    | inr other ↦ h.all i (omega (arith, other))
  ];
}

pub taken_all : (sorted taken : List (List ℕ)) (place : ℕ) → place ≡ length sorted → IsTaken sorted place taken → taken ≡ in_row_order sorted
taken_all sorted taken place end h = order_same taken (in_row_order sorted) h.order (ordered_order sorted)
    (λ name i. let w = h.inside name i in ordered_has sorted name (subst (λ z. In z sorted) (sym w.2) (at_place sorted w.0 [] (omega (arith, w.1)))))
    (λ name i. let w = place_of sorted name [] (ordered_parts sorted name i) in subst (λ z. In z taken) w.2 (h.all w.0 (omega (arith, w.1))))

-- equal elements give equal orders
pub order_of_same : (xs ys : List (List ℕ)) → IsPermutation xs ys → in_row_order ys ≡ in_row_order xs
order_of_same xs ys moved = order_same (in_row_order ys) (in_row_order xs) (ordered_order ys) (ordered_order xs)
    (λ c i. ordered_has xs c (moved_in ys xs (IsPermutation-sym xs ys moved) c (ordered_parts ys c i)))
    (λ c i. ordered_has ys c (moved_in xs ys moved c (ordered_parts xs c i)))
  where
    moved_in : (us vs : List (List ℕ)) → IsPermutation us vs → (c : List ℕ) → In c us → In c vs
    moved_in us vs m c i = let w = Contains-permutation us vs c m (place_of us c c i) in subst (λ z. In z vs) w.2 (at_place vs w.0 c w.1)

-- lent names that were sorted do not fall
far_apart : (lent : List (Bor (List ℕ))) (d : Bor (List ℕ)) → IsSorted (λ x y. slice_cmp nat_cmp x.now y.now) lent → Rising (map (λ name. name.now) lent)
far_apart lent d sorted i j l within =
    let inside : j < length lent = omega (arith, length-map lent (λ name. name.now), within) in
    let front : i < length lent = omega arith in
    let apart : is_lt (slice_cmp nat_cmp (get_or lent j d).now (get_or lent i d).now) ≡ false =
    sorted_far (λ x y. is_lt (slice_cmp nat_cmp x.now y.now)) (ranks_by nat_list_cmp_total (λ name. name.now)) lent sorted i j d l inside in
    ap (λ name. comes_before name (name_at (map (λ name. name.now) lent) i)) (get_or-map (λ name. name.now) lent j d [] inside)
    ∙ ap (λ name. comes_before (get_or lent j d).now name) (get_or-map (λ name. name.now) lent i d [] front)
    ∙ sym (before_compared (get_or lent j d).now (get_or lent i d).now (slice_cmp nat_cmp (get_or lent j d).now (get_or lent i d).now) refl) ∙ apart

pub sorted_rising : (lent : List (Bor (List ℕ))) → IsSorted (λ x y. slice_cmp nat_cmp x.now y.now) lent → Rising (map (λ name. name.now) lent)
sorted_rising [] sorted = λ i j l within. absurd (omega arith)
sorted_rising (x ∷ xs) sorted = far_apart (x ∷ xs) x sorted

-- and are the names in another order
pub sorted_same : (names : List (List ℕ)) (lent sorted : List (Bor (List ℕ))) → map (λ name. name.now) lent ≡ names → IsPermutation lent sorted →
    in_row_order (map (λ name. name.now) sorted) ≡ in_row_order names
sorted_same names lent sorted e moved = order_of_same (map (λ name. name.now) lent) (map (λ name. name.now) sorted) (IsPermutation-map (λ name. name.now) lent sorted moved) ∙ ap in_row_order e
