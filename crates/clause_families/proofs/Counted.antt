-- How many minimal clauses there are among kept clauses and the unions of two families.
use Rattle.std.proofs.Common.{◌≡◌, ℕ, zero, suc, ◌<◌, ◌≤◌, ◌+◌, Bool, true, false, not, ◌&&◌, ◌||◌, cond, List, [], ◌∷◌, ◌++◌, ◌⊎◌, length, map, filter, drop}
use Rattle.std.proofs.Common.{drop-cons, get_or, add-one, inl, inr, refl, sym, ◌∙◌, ap, ap₂, subst, arith, ltb, lt-ltb}
use Rattle.std.proofs.lemmas.Bool.{and_from, and_parts, both_ways, cases_Bool, cases_lt, cond-true, cond-false, false_from_ne_true, not_from_false}
use Rattle.std.proofs.{lemmas.Bool.{not_from_true, not-true}, lemmas.List.{length-append}}
use Rattle.std.specs.List.{flat_map, list_all, list_any}
use Rattle.listed.specs.Lists.{In, here, there, Ascending, Inside, has, is_inside}
use Rattle.listed.proofs.Orders.{ascending_same}
use Rattle.listed.proofs.Lists.{any_cases, any_from, decided_in, filter_cases, filter_from, filter_same, In_append_cases, In_append_left, In_append_right}
use Rattle.listed.proofs.Lists.{In_cases, In_flat, In_flat_cases, In_has, has_In, In_map, In_map_cases, In_none}
use Rattle.clause_pool.specs.{Clauses.{comes_before, in_row_order, insert_clause, minimal_of}, Lists.{Before, InOrder}}
use Rattle.clause_pool.proofs.Order.{before_asym, neither_before, order_filter, order_same, ordered_has, ordered_order, ordered_parts}
use Rattle.clause_pool.proofs.Clauses.{inside_at, inside_from}
use Rattle.clause_families.specs.{Inclusion.{has_shorter, some_inside}, Unions.{clause_without, union_of}, Families.{IncludesOneOf, SameClauses}}
use Rattle.clause_families.specs.Counting.{is_new, own_count, slice_count, slices, unites, unites_less}
use Rattle.clause_families.proofs.Families.{inside_length, inside_same, lowest_minimal, not_shorter, some_shorter}
use Rattle.clause_families.proofs.{Unions.{dropped_from, dropped_parts, joined_ascending, joined_cases, joined_left, joined_right}, Sifted.{shorter_found}}

-- How many clauses of a row in order pass a test, where a clause more is put in.

-- one that does not pass
placed_none : (g : List ℕ → Bool) (c : List ℕ) (L : List (List ℕ)) → g c ≡ false → length (filter g (insert_clause c L)) ≡ length (filter g L)
placed_none g c [] h = ap length (cond-false (g c) (c ∷ []) [] h)
placed_none g c (d ∷ ds) h = pick (comes_before c d) (comes_before d c) (placed_none g c ds h)
  where
    pick : (a b : Bool) → length (filter g (insert_clause c ds)) ≡ length (filter g ds) →
        length (filter g (cond a (c ∷ (d ∷ ds)) (cond b (d ∷ insert_clause c ds) (d ∷ ds)))) ≡ length (filter g (d ∷ ds))
    pick true b e = ap length (cond-false (g c) (c ∷ filter g (d ∷ ds)) (filter g (d ∷ ds)) h)
    pick false true e = last (g d)
      where
        last : (y : Bool) → length (cond y (d ∷ filter g (insert_clause c ds)) (filter g (insert_clause c ds))) ≡ length (cond y (d ∷ filter g ds) (filter g ds))
        last true = ap suc e
        last false = e
    pick false false e = refl

-- one that is not there yet
placed_count : (g : List ℕ → Bool) (c : List ℕ) (L : List (List ℕ)) → (In c L → ⊥) → length (filter g (insert_clause c L)) ≡ length (filter g (c ∷ L))
placed_count g c [] h = refl
placed_count g c (d ∷ ds) h = pick (comes_before c d) (comes_before d c) refl refl (placed_count g c ds (λ i. h (there i)))
  where
    pick : (a b : Bool) → comes_before c d ≡ a → comes_before d c ≡ b → length (filter g (insert_clause c ds)) ≡ length (filter g (c ∷ ds)) →
        length (filter g (cond a (c ∷ (d ∷ ds)) (cond b (d ∷ insert_clause c ds) (d ∷ ds)))) ≡ length (filter g (c ∷ (d ∷ ds)))
    pick true b k l e = refl
    pick false true k l e = last (g c) (g d) e
      where
        last : (x y : Bool) → length (filter g (insert_clause c ds)) ≡ length (cond x (c ∷ filter g ds) (filter g ds)) →
            length (cond y (d ∷ filter g (insert_clause c ds)) (filter g (insert_clause c ds)))
            ≡ length (cond x (c ∷ cond y (d ∷ filter g ds) (filter g ds)) (cond y (d ∷ filter g ds) (filter g ds)))
        last true true f = ap suc f
        last false true f = ap suc f
        last true false f = f
        last false false f = f
    pick false false k l e = absurd (h (subst (λ z. In c (z ∷ ds)) (neither_before c d k l) here))

-- one that is there
placed_again : (c : List ℕ) (cs : List (List ℕ)) → In c cs → in_row_order (c ∷ cs) ≡ in_row_order cs
placed_again c cs h =
    order_same (in_row_order (c ∷ cs)) (in_row_order cs) (ordered_order (c ∷ cs)) (ordered_order cs)
    (λ x i. elim (In_cases (ordered_parts (c ∷ cs) x i)) [ inl e ↦ ordered_has cs x (subst (λ z. In z cs) (sym e) h) | inr j ↦ ordered_has cs x j ])
    (λ x i. ordered_has (c ∷ cs) x (there (ordered_parts cs x i)))

-- the test k is passed by what passes the test g and is none of the others
data Splits (g k : List ℕ → Bool) (ys : List (List ℕ)) (c : List ℕ) : Type 0 where
  counted : k c ≡ true → g c ≡ true → (In c ys → ⊥) → Splits g k ys c
  left : k c ≡ false → g c ≡ false → Splits g k ys c
  twice : k c ≡ false → In c ys → Splits g k ys c

pub not_twice : (c : List ℕ) (X : List (List ℕ)) → InOrder (c ∷ X) → In c X → ⊥
not_twice c X o i = before_asym c c (o.0 c i) (o.0 c i)

split_count : (g k : List ℕ → Bool) (X ys : List (List ℕ)) → InOrder X → ((c : List ℕ) → In c X → Splits g k ys c) →
    length (filter g (in_row_order (X ++ ys))) ≡ length (filter k X) + length (filter g (in_row_order ys))
split_count g k [] ys o f = omega arith
split_count g k (c ∷ X) ys o f = pick (f c here) (split_count g k X ys o.1 (λ d i. f d (there i)))
  where
    pick : Splits g k ys c → length (filter g (in_row_order (X ++ ys))) ≡ length (filter k X) + length (filter g (in_row_order ys)) →
        length (filter g (in_row_order (c ∷ (X ++ ys)))) ≡ length (filter k (c ∷ X)) + length (filter g (in_row_order ys))
    pick (counted h t n) e =
        let a : length (filter g (insert_clause c (in_row_order (X ++ ys)))) ≡ length (filter g (c ∷ in_row_order (X ++ ys))) =
        placed_count g c (in_row_order (X ++ ys)) (λ i. elim (In_append_cases X ys c (ordered_parts (X ++ ys) c i)) [ inl j ↦ not_twice c X o j | inr j ↦ n j ]) in
        let b : length (filter g (c ∷ in_row_order (X ++ ys))) ≡ suc (length (filter g (in_row_order (X ++ ys)))) =
        ap length (cond-true (g c) (c ∷ filter g (in_row_order (X ++ ys))) (filter g (in_row_order (X ++ ys))) t) in
        let d : length (filter k (c ∷ X)) ≡ suc (length (filter k X)) = ap length (cond-true (k c) (c ∷ filter k X) (filter k X) h) in
        omega arith
    pick (left h t) e =
        let d : length (filter k (c ∷ X)) ≡ length (filter k X) = ap length (cond-false (k c) (c ∷ filter k X) (filter k X) h) in
        placed_none g c (in_row_order (X ++ ys)) t ∙ e ∙ ap (λ n. n + length (filter g (in_row_order ys))) (sym d)
    pick (twice h i) e =
        let d : length (filter k (c ∷ X)) ≡ length (filter k X) = ap length (cond-false (k c) (c ∷ filter k X) (filter k X) h) in
        ap (λ z. length (filter g z)) (placed_again c (X ++ ys) (In_append_right X ys c i)) ∙ e ∙ ap (λ n. n + length (filter g (in_row_order ys))) (sym d)

-- what is in order already
ordered_front : (xs ys : List (List ℕ)) → in_row_order (xs ++ ys) ≡ in_row_order (in_row_order xs ++ ys)
ordered_front xs ys =
    order_same (in_row_order (xs ++ ys)) (in_row_order (in_row_order xs ++ ys)) (ordered_order (xs ++ ys)) (ordered_order (in_row_order xs ++ ys))
    (λ c i. ordered_has (in_row_order xs ++ ys) c (elim (In_append_cases xs ys c (ordered_parts (xs ++ ys) c i)) [
      | inl j ↦ In_append_left (in_row_order xs) ys c (ordered_has xs c j)
      | inr j ↦ In_append_right (in_row_order xs) ys c j
    ]))
    (λ c i. ordered_has (xs ++ ys) c (elim (In_append_cases (in_row_order xs) ys c (ordered_parts (in_row_order xs ++ ys) c i)) [
      | inl j ↦ In_append_left xs ys c (ordered_parts xs c j)
      | inr j ↦ In_append_right xs ys c j
    ]))

-- a test of some member is one of the same members in another list
any_there : (p : List ℕ → Bool) (xs ys : List (List ℕ)) → ((c : List ℕ) → In c xs → In c ys) → list_any p xs ≡ true → list_any p ys ≡ true
any_there p xs ys f h = let w : (c : List ℕ) × In c xs × (p c ≡ true) = any_cases p xs h in any_from p ys w.0 (f w.0 w.1) w.2

any_alike : (p : List ℕ → Bool) (xs ys : List (List ℕ)) → ((c : List ℕ) → In c xs → In c ys) → ((c : List ℕ) → In c ys → In c xs) → list_any p xs ≡ list_any p ys
any_alike p xs ys f g =
    elim (cases_Bool (list_any p xs)) [
      | inl h ↦ h ∙ sym (any_there p xs ys f h)
      | inr h ↦ h ∙ sym (false_from_ne_true (list_any p ys) (λ k. both_ways (list_any p xs) h (any_there p ys xs g k)))
    ]

-- each clause once, through numbers that keep them apart
once_count : (h : List ℕ → Bool) (f : List ℕ → List ℕ) (xs : List (List ℕ)) → InOrder xs → ((c d : List ℕ) → In c xs → In d xs → f c ≡ f d → c ≡ d) →
    length (filter h (in_row_order (map f xs))) ≡ length (filter h (map f xs))
once_count h f [] o one = refl
once_count h f (x ∷ xs) o one =
    placed_count h (f x) (in_row_order (map f xs)) (λ i.
    let w : (y : List ℕ) × In y xs × (f x ≡ f y) = In_map_cases f xs (f x) (ordered_parts (map f xs) (f x) i) in
    not_twice x xs o (subst (λ z. In z xs) (sym (one x w.0 here (there w.1) w.2)) w.1))
    ∙ last (h (f x)) (once_count h f xs o.1 (λ c d i j. one c d (there i) (there j)))
  where
    last : (b : Bool) → length (filter h (in_row_order (map f xs))) ≡ length (filter h (map f xs)) →
        length (cond b (f x ∷ filter h (in_row_order (map f xs))) (filter h (in_row_order (map f xs)))) ≡ length (cond b (f x ∷ filter h (map f xs)) (filter h (map f xs)))
    last true e = ap suc e
    last false e = e

-- in two parts, of which all of the first pass
parted_count : (h k : List ℕ → Bool) (f : List ℕ → List ℕ) (xs : List (List ℕ)) → ((c : List ℕ) → In c xs → k c ≡ true → h (f c) ≡ true) →
    length (filter h (map f xs)) ≡ length (filter k xs) + length (filter h (map f (filter (λ c. not (k c)) xs)))
parted_count h k f [] all = refl
parted_count h k f (x ∷ xs) all = pick (k x) refl (h (f x)) refl (parted_count h k f xs (λ c i. all c (there i)))
  where
    pick : (a : Bool) → k x ≡ a → (b : Bool) → h (f x) ≡ b → length (filter h (map f xs)) ≡ length (filter k xs) + length (filter h (map f (filter (λ c. not (k c)) xs))) →
        length (cond b (f x ∷ filter h (map f xs)) (filter h (map f xs)))
        ≡ length (cond a (x ∷ filter k xs) (filter k xs)) + length (filter h (map f (cond (not a) (x ∷ filter (λ c. not (k c)) xs) (filter (λ c. not (k c)) xs))))
    pick true e true g s = omega arith
    pick true e false g s = absurd (both_ways (h (f x)) g (all x here e))
    pick false e b g s = subst (λ z. length (cond b (f x ∷ filter h (map f xs)) (filter h (map f xs)))
        ≡ length (filter k xs) + length (cond z (f x ∷ filter h (map f (filter (λ c. not (k c)) xs))) (filter h (map f (filter (λ c. not (k c)) xs))))) (sym g) (last b s)
      where
        last : (b : Bool) → length (filter h (map f xs)) ≡ length (filter k xs) + length (filter h (map f (filter (λ c. not (k c)) xs))) →
            length (cond b (f x ∷ filter h (map f xs)) (filter h (map f xs)))
            ≡ length (filter k xs) + length (cond b (f x ∷ filter h (map f (filter (λ c. not (k c)) xs))) (filter h (map f (filter (λ c. not (k c)) xs))))
        last true t = omega arith
        last false t = t

-- the numbers of the clause are none of the family's
abbrev pub Alone : List (List ℕ) → List ℕ → Type 0
Alone family clause = (c : List ℕ) → In c family → (n : ℕ) → In n c → In n clause → ⊥

-- the clause is inside without a number that it lacks
cut_inside : (n : ℕ) (S T : List ℕ) → Inside S T → (In n S → ⊥) → Inside S (clause_without n T)
cut_inside n S T f h m i = dropped_from n T m (f m i) (λ e. h (subst (λ z. In z S) e i))

module _ (kept first second : List (List ℕ))
    (kept_up : (c : List ℕ) → In c kept → Ascending c) (first_up : (c : List ℕ) → In c first → Ascending c) (second_up : (c : List ℕ) → In c second → Ascending c) where
  -- the unions of some clauses of the first family
  abbrev pub unions_of_all : List (List ℕ) → List (List ℕ)
  unions_of_all ones = flat_map (λ a. map (union_of a) second) ones

  abbrev pub all_clauses : List (List ℕ)
  all_clauses = kept ++ unions_of_all first

  pub record Joins (ones : List (List ℕ)) (u : List ℕ) : Type 0 where
    pub one : List ℕ
    pub other : List ℕ
    pub from : In one ones
    pub with : In other second
    pub is : u ≡ union_of one other

  pub joins : (ones : List (List ℕ)) (u : List ℕ) → In u (unions_of_all ones) → Joins ones u
  joins ones u i =
      let w : (a : List ℕ) × In a ones × In u (map (union_of a) second) = In_flat_cases (λ a. map (union_of a) second) ones u i in
      let v : (b : List ℕ) × In b second × (u ≡ union_of w.0 b) = In_map_cases (union_of w.0) second u w.2 in
      record { one = w.0; other = v.0; from = w.1; with = v.1; is = v.2 }

  pub joined : (ones : List (List ℕ)) (a b : List ℕ) → In a ones → In b second → In (union_of a b) (unions_of_all ones)
  joined ones a b i j = In_flat (λ a. map (union_of a) second) ones a (union_of a b) i (In_map (union_of a) second b j)

  joined_inside : (a b c : List ℕ) → Inside a c → Inside b c → Inside (union_of a b) c
  joined_inside a b c f g n i = elim (joined_cases a b n i) [ inl j ↦ f n j | inr j ↦ g n j ]

  one_inside : (ones : List (List ℕ)) (u c : List ℕ) (w : Joins ones u) → Inside u c → Inside w.one c
  one_inside ones u c w f n i = f n (subst (λ z. In n z) (sym w.is) (joined_left w.one w.other n i))

  other_inside : (ones : List (List ℕ)) (u c : List ℕ) (w : Joins ones u) → Inside u c → Inside w.other c
  other_inside ones u c w f n i = f n (subst (λ z. In n z) (sym w.is) (joined_right w.one w.other n i))

  some_from : (family : List (List ℕ)) (a c : List ℕ) → In a family → Inside a c → some_inside family c ≡ true
  some_from family a c i f = any_from (λ other. is_inside other c) family a i (inside_from a c f)

  some_at : (family : List (List ℕ)) (c : List ℕ) → some_inside family c ≡ true → IncludesOneOf family c
  some_at family c h =
      let w : (S : List ℕ) × In S family × (is_inside S c ≡ true) = any_cases (λ other. is_inside other c) family h in
      (w.0, w.1, inside_at w.0 c w.2)

  unites_from : (u c : List ℕ) → In u (unions_of_all first) → Inside u c → unites first second c ≡ true
  unites_from u c i f =
      let w : Joins first u = joins first u i in
      and_from (some_inside first c) (some_inside second c) (some_from first w.one c w.from (one_inside first u c w f)) (some_from second w.other c w.with (other_inside first u c w f))

  unites_at : (c : List ℕ) → unites first second c ≡ true → IncludesOneOf (unions_of_all first) c
  unites_at c h =
      let b : (some_inside first c ≡ true) × (some_inside second c ≡ true) = and_parts (some_inside first c) (some_inside second c) h in
      let v : IncludesOneOf first c = some_at first c b.0 in
      let w : IncludesOneOf second c = some_at second c b.1 in
      (union_of v.0 w.0, joined first v.0 w.0 v.1 w.1, joined_inside v.0 w.0 c v.2 w.2)

  unions_rise : (ones : List (List ℕ)) (u : List ℕ) → In u (unions_of_all ones) → Ascending u
  unions_rise ones u i = let w : Joins ones u = joins ones u i in subst Ascending (sym w.is) (joined_ascending w.one w.other (second_up w.other w.with))

  all_up : (c : List ℕ) → In c all_clauses → Ascending c
  all_up c i = elim (In_append_cases kept (unions_of_all first) c i) [ inl j ↦ kept_up c j | inr j ↦ unions_rise first c j ]

  lowest_of : List ℕ → Bool
  lowest_of c = not (has_shorter all_clauses c)

  -- a clause of all is inside: it is shorter, or the same
  shorter_or_same : (S c : List ℕ) → In S all_clauses → Ascending c → Inside S c → (has_shorter all_clauses c ≡ true) ⊎ (S ≡ c)
  shorter_or_same S c i up f =
      elim (cases_lt (length S) (length c)) [
        | inl l ↦ inl (any_from (λ other. ltb (length other) (length c) && is_inside other c) all_clauses S i
            (and_from (ltb (length S) (length c)) (is_inside S c) (lt-ltb (length S) (length c) l) (inside_from S c f)))
        | inr m ↦ inr (ascending_same S c (all_up S i) up f (inside_same S c (all_up S i) up f (omega arith)))
      ]

  lowest_when : (c : List ℕ) → Ascending c → ((S : List ℕ) → In S all_clauses → Inside S c → Inside c S) → lowest_of c ≡ true
  unfolding lowest_of
  lowest_when c up f = not_from_false (has_shorter all_clauses c) (false_from_ne_true (has_shorter all_clauses c) (λ h. some_shorter all_clauses all_up c up h f))

  not_lowest : (c : List ℕ) → has_shorter all_clauses c ≡ true → lowest_of c ≡ false
  unfolding lowest_of
  not_lowest c h = not_from_true (has_shorter all_clauses c) h

  -- A kept clause counts if no union is within it.
  module _ (kept_minimal : (c d : List ℕ) → In c kept → In d kept → Inside c d → c ≡ d) where
    own_splits : (p : List ℕ) → In p kept → Splits lowest_of (λ c. not (unites first second c)) (unions_of_all first) p
    own_splits p i =
        elim (cases_Bool (unites first second p)) [
          | inl h ↦
              let w : IncludesOneOf (unions_of_all first) p = unites_at p h in
              let no : not (unites first second p) ≡ false = not_from_true (unites first second p) h in
              elim (shorter_or_same w.0 p (In_append_right kept (unions_of_all first) w.0 w.1) (kept_up p i) w.2) [
                | inl s ↦ left no (not_lowest p s)
                | inr e ↦ twice no (subst (λ z. In z (unions_of_all first)) e w.1)
              ]
          | inr h ↦
              counted (not_from_false (unites first second p) h)
              (lowest_when p (kept_up p i) (λ S j f. elim (In_append_cases kept (unions_of_all first) S j) [
                | inl k ↦ subst (λ z. Inside p z) (sym (kept_minimal S p k i f)) (λ n m. m)
                | inr k ↦ absurd (both_ways (unites first second p) h (unites_from S p k f))
              ]))
              (λ j. both_ways (unites first second p) h (unites_from p p j (λ n m. m)))
        ]

  -- A union counts with the last clause of the first family within it, where it has no shorter clause within it.
  new_splits : (ones later : List (List ℕ)) (u : List ℕ) → ((c : List ℕ) → In c ones → In c first) → ((c : List ℕ) → In c later → In c first) → In u (unions_of_all ones) →
      Splits lowest_of (is_new kept first second later) (unions_of_all later) u
  new_splits ones later u sub subl i =
      let w : Joins ones u = joins ones u i in
      let up : Ascending u = unions_rise ones u i in
      elim (cases_Bool (has_shorter kept u)) [
        | inl h ↦
            left (ap (λ b. not b && (not (some_inside later u) && not (unites_less first second u))) h)
            (not_lowest u (any_there (λ other. ltb (length other) (length u) && is_inside other u) kept all_clauses (λ c j. In_append_left kept (unions_of_all first) c j) h))
        | inr h ↦ elim (cases_Bool (some_inside later u)) [
          | inl k ↦
              let no : is_new kept first second later u ≡ false =
              ap (λ b. not b && (not (some_inside later u) && not (unites_less first second u))) h ∙ ap (λ b. not b && not (unites_less first second u)) k in
              let v : IncludesOneOf later u = some_at later u k in
              let there_is : In (union_of v.0 w.other) (unions_of_all later) = joined later v.0 w.other v.1 w.with in
              elim (shorter_or_same (union_of v.0 w.other) u (In_append_right kept (unions_of_all first) (union_of v.0 w.other) (joined first v.0 w.other (subl v.0 v.1) w.with)) up
              (joined_inside v.0 w.other u v.2 (other_inside ones u u w (λ n m. m)))) [
                | inl s ↦ left no (not_lowest u s)
                | inr e ↦ twice no (subst (λ z. In z (unions_of_all later)) e there_is)
              ]
          | inr k ↦ elim (cases_Bool (unites_less first second u)) [
            | inl m ↦
                let no : is_new kept first second later u ≡ false =
                ap (λ b. not b && (not (some_inside later u) && not (unites_less first second u))) h ∙ ap (λ b. not b && not (unites_less first second u)) k ∙ ap not m in
                let x : (n : ℕ) × In n u × (unites first second (clause_without n u) ≡ true) = any_cases (λ n. unites first second (clause_without n u)) u m in
                let v : IncludesOneOf (unions_of_all first) (clause_without x.0 u) = unites_at (clause_without x.0 u) x.2 in
                elim (shorter_or_same v.0 u (In_append_right kept (unions_of_all first) v.0 v.1) up (λ n j. (dropped_parts x.0 u n (v.2 n j)).0)) [
                  | inl s ↦ left no (not_lowest u s)
                  | inr e ↦ absurd ((dropped_parts x.0 u x.0 (v.2 x.0 (subst (λ z. In x.0 z) (sym e) x.1))).1 refl)
                ]
            | inr m ↦
                counted
                (ap (λ b. not b && (not (some_inside later u) && not (unites_less first second u))) h ∙ ap (λ b. not b && not (unites_less first second u)) k ∙ ap not m)
                (lowest_when u up (λ S j f. elim (In_append_cases kept (unions_of_all first) S j) [
                  | inl t ↦ not_shorter kept kept_up u up h S t f
                  | inr t ↦ (λ n y. elim (decided_in n S) [
                    | inl g ↦ g
                    | inr g ↦ absurd (both_ways (unites_less first second u) m
                        (any_from (λ n. unites first second (clause_without n u)) u n y (unites_from S (clause_without n u) t (cut_inside n S u f g))))
                  ])
                ]))
                (λ j. let v : Joins later u = joins later u j in
                both_ways (some_inside later u) k (some_from later v.one u v.from (one_inside later u u v (λ n y. y))))
          ]
        ]
      ]

  slices_are : (ones : List (List ℕ)) → ((c : List ℕ) → In c ones → In c first) → length (filter lowest_of (in_row_order (unions_of_all ones))) ≡ slices kept first second ones
  slices_are [] sub = refl
  slices_are (a ∷ later) sub =
      let subl : (c : List ℕ) → In c later → In c first = λ c i. sub c (there i) in
      let rest : length (filter lowest_of (in_row_order (unions_of_all later))) ≡ slices kept first second later = slices_are later subl in
      let here_are : length (filter lowest_of (in_row_order (in_row_order (map (union_of a) second) ++ unions_of_all later)))
      ≡ slice_count kept first second later a second + length (filter lowest_of (in_row_order (unions_of_all later))) =
      split_count lowest_of (is_new kept first second later) (in_row_order (map (union_of a) second)) (unions_of_all later) (ordered_order (map (union_of a) second))
      (λ u i. new_splits (a ∷ later) later u sub subl (In_append_left (map (union_of a) second) (unions_of_all later) u (ordered_parts (map (union_of a) second) u i))) in
      ap (λ z. length (filter lowest_of z)) (ordered_front (map (union_of a) second) (unions_of_all later)) ∙ here_are
      ∙ (let e : slice_count kept first second later a second + length (filter lowest_of (in_row_order (unions_of_all later)))
      ≡ slices kept first second later + slice_count kept first second later a second = omega arith in e)

  -- all that count are the minimal ones
  pub count_is : InOrder kept → ((c d : List ℕ) → In c kept → In d kept → Inside c d → c ≡ d) →
      length (minimal_of (in_row_order all_clauses)) ≡ own_count kept first second + slices kept first second first
  unfolding lowest_of
  count_is order kept_minimal =
      let ordered_up : (c : List ℕ) → In c (in_row_order all_clauses) → Ascending c = λ c i. all_up c (ordered_parts all_clauses c i) in
      ap length (sym (lowest_minimal (in_row_order all_clauses) ordered_up))
      ∙ ap length (filter_same (λ c. not (has_shorter (in_row_order all_clauses) c)) lowest_of (in_row_order all_clauses)
      (λ c i. ap not (any_alike (λ other. ltb (length other) (length c) && is_inside other c) (in_row_order all_clauses) all_clauses (ordered_parts all_clauses) (ordered_has all_clauses))))
      ∙ split_count lowest_of (λ c. not (unites first second c)) kept (unions_of_all first) order (own_splits kept_minimal)
      ∙ ap (λ n. own_count kept first second + n) (slices_are first (λ c i. i))

  -- Where two clauses have no number of the other family or of a kept clause, their union counts.
  module _ (first_minimal : (c d : List ℕ) → In c first → In d first → Inside c d → c ≡ d) (second_minimal : (c d : List ℕ) → In c second → In d second → Inside c d → c ≡ d)
      (beside : (c d : List ℕ) → In c kept → In d first → Inside c d → ⊥) where
    module _ (a : List ℕ) (i : In a first) (a_second : Alone second a) (a_kept : Alone kept a) where
      in_left : (b c : List ℕ) → ((n : ℕ) → In n c → In n b → ⊥) → Inside c (union_of a b) → Inside c a
      in_left b c h f n j = elim (joined_cases a b n (f n j)) [ inl k ↦ k | inr k ↦ absurd (h n j k) ]

      in_right : (b c : List ℕ) → In c second → Inside c (union_of a b) → Inside c b
      in_right b c j f n k = elim (joined_cases a b n (f n k)) [ inl y ↦ absurd (a_second c j n k y) | inr y ↦ y ]

      one_of : (b d : List ℕ) → In b second → In d second → union_of a b ≡ union_of a d → b ≡ d
      one_of b d j k e = second_minimal b d j k (in_right d b j (λ n y. subst (λ z. In n z) e (joined_right a b n y)))

      alone_new : (later : List (List ℕ)) (b : List ℕ) → In b second → Alone first b → Alone kept b → ((c : List ℕ) → In c later → In c first) → (In a later → ⊥) →
          is_new kept first second later (union_of a b) ≡ true
      alone_new later b j b_first b_kept sub fresh =
          let u : List ℕ = union_of a b in
          let own : (c : List ℕ) → In c first → Inside c (union_of a b) → c ≡ a = λ c k f. first_minimal c a k i (in_left b c (b_first c k) f) in
          let other : (c : List ℕ) → In c second → Inside c (union_of a b) → c ≡ b = λ c k f. second_minimal c b k j (in_right b c k f) in
          let one : has_shorter kept (union_of a b) ≡ false = false_from_ne_true (has_shorter kept (union_of a b)) (λ h.
          let w : IncludesOneOf kept (union_of a b) = shorter_found kept (union_of a b) h in
          beside w.0 a w.1 i (in_left b w.0 (b_kept w.0 w.1) w.2)) in
          let two : some_inside later (union_of a b) ≡ false = false_from_ne_true (some_inside later (union_of a b)) (λ h.
          let w : IncludesOneOf later (union_of a b) = some_at later (union_of a b) h in
          fresh (subst (λ z. In z later) (own w.0 (sub w.0 w.1) w.2) w.1)) in
          let three : unites_less first second (union_of a b) ≡ false = false_from_ne_true (unites_less first second (union_of a b)) (λ h.
          let x : (n : ℕ) × In n (union_of a b) × (unites first second (clause_without n (union_of a b)) ≡ true) = any_cases (λ n. unites first second (clause_without n (union_of a b))) (union_of a b) h in
          let rest : List ℕ = clause_without x.0 (union_of a b) in
          let p : (some_inside first (clause_without x.0 (union_of a b)) ≡ true) × (some_inside second (clause_without x.0 (union_of a b)) ≡ true) =
          and_parts (some_inside first (clause_without x.0 (union_of a b))) (some_inside second (clause_without x.0 (union_of a b))) x.2 in
          let v : IncludesOneOf first (clause_without x.0 (union_of a b)) = some_at first (clause_without x.0 (union_of a b)) p.0 in
          let w : IncludesOneOf second (clause_without x.0 (union_of a b)) = some_at second (clause_without x.0 (union_of a b)) p.1 in
          let is_a : v.0 ≡ a = own v.0 v.1 (λ n k. (dropped_parts x.0 (union_of a b) n (v.2 n k)).0) in
          let is_b : w.0 ≡ b = other w.0 w.1 (λ n k. (dropped_parts x.0 (union_of a b) n (w.2 n k)).0) in
          elim (joined_cases a b x.0 x.1) [
            | inl k ↦ (dropped_parts x.0 (union_of a b) x.0 (v.2 x.0 (subst (λ z. In x.0 z) (sym is_a) k))).1 refl
            | inr k ↦ (dropped_parts x.0 (union_of a b) x.0 (w.2 x.0 (subst (λ z. In x.0 z) (sym is_b) k))).1 refl
          ]) in
          ap (λ z. not z && (not (some_inside later (union_of a b)) && not (unites_less first second (union_of a b)))) one
          ∙ ap (λ z. not z && not (unites_less first second (union_of a b))) two ∙ ap not three

      pub alone_slice : (k : List ℕ → Bool) (later : List (List ℕ)) → InOrder second → ((b : List ℕ) → In b second → k b ≡ true → Alone first b × Alone kept b) →
          ((c : List ℕ) → In c later → In c first) → (In a later → ⊥) →
          slice_count kept first second later a second ≡ length (filter k second) + slice_count kept first second later a (filter (λ c. not (k c)) second)
      alone_slice k later order apart sub fresh =
          let h : List ℕ → Bool = is_new kept first second later in
          once_count (is_new kept first second later) (union_of a) second order one_of
          ∙ parted_count (is_new kept first second later) k (union_of a) second (λ b j t. alone_new later b j (apart b j t).0 (apart b j t).1 sub fresh)
          ∙ ap (λ n. length (filter k second) + n)
          (sym (once_count (is_new kept first second later) (union_of a) (filter (λ c. not (k c)) second) (order_filter (λ c. not (k c)) second order)
          (λ c d i j. one_of c d (filter_cases (λ c. not (k c)) second c i).0 (filter_cases (λ c. not (k c)) second d j).0)))

-- what is counted from a place on is no more than all
pub slices_from : (kept first second ones : List (List ℕ)) (i : ℕ) → slices kept first second (drop i ones) ≤ slices kept first second ones
slices_from kept first second [] zero = omega arith
slices_from kept first second [] (suc i) = omega arith
slices_from kept first second (a ∷ ones) zero = omega arith
slices_from kept first second (a ∷ ones) (suc i) = let l : slices kept first second (drop i ones) ≤ slices kept first second ones = slices_from kept first second ones i in omega arith

pub slices_step : (kept first second ones : List (List ℕ)) (i : ℕ) → i < length ones →
    slices kept first second (drop i ones) ≡ slices kept first second (drop (i + 1) ones) + slice_count kept first second (drop (i + 1) ones) (get_or ones i []) second
slices_step kept first second ones i l = ap (slices kept first second) (drop-cons ones i [] l ∙ ap (λ n. get_or ones i [] ∷ drop n ones) (sym (add-one i)))
