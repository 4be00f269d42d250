-- Groups of clauses of a pool that begin alike up to a depth, in the order of what they have from there on.
use Rattle.std.proofs.Common.{◌≡◌, ℕ, zero, suc, ◌<◌, ◌≤◌, ◌+◌, ◌-◌, Bool, true, false, ◌||◌, cond, List, [], ◌∷◌, inl, inr, refl, sym, ◌∙◌, ap, subst, length}
use Rattle.std.proofs.Common.{get_or, map, filter, take, drop, arith, eq-eqb, eqb-true, ne_eqb, Option}
use Rattle.std.proofs.lemmas.Bool.{and_from, and_parts, both_ways, cases_lt, cond-false, cond-true, false_from_ne_true}
use Rattle.std.proofs.lemmas.List.{get_or-map, length-map, get_or_default}
use Rattle.std.specs.List.{list_any}
use Rattle.listed.proofs.Orders.{ascending_places, rest_ascends}
use Rattle.listed.proofs.Lists.{In_drop, In_at, In_cases, In_has, In_map, In_map_cases, In_none, all_at, all_from, any_cases, any_from, filter_cases}
use Rattle.listed.proofs.Lists.{filter_from, has_In}
use Rattle.clause_pool.specs.{Interned.{Interned, clause_at, clauses_at}, Lists.{Before, InOrder}}
use Rattle.clause_pool.specs.Within.{goes_on, is_other, lead, rest_at, rest_within, some_within}
use Rattle.clause_pool.proofs.{Lists.{In_place}, Leads.{order_lead}}
use Rattle.listed.specs.Lists.{In, has, Ascending, is_inside}

-- what a test keeps, where it holds of the elements of a range and of no others
filter_range : (p : ℕ → Bool) (xs : List ℕ) (start count : ℕ) → ((k : ℕ) → k < start → k < length xs → p (get_or xs k 0) ≡ false)
    → ((k : ℕ) → start ≤ k → k < start + count → k < length xs → p (get_or xs k 0) ≡ true) → ((k : ℕ) → start + count ≤ k → k < length xs → p (get_or xs k 0) ≡ false)
    → take count (drop start xs) ≡ filter p xs
filter_range p [] zero zero f g h = refl
filter_range p [] zero (suc c) f g h = refl
filter_range p [] (suc s) zero f g h = refl
filter_range p [] (suc s) (suc c) f g h = refl
filter_range p (x ∷ xs) (suc s) count f g h =
    filter_range p xs s count (λ k l u. f (suc k) (omega arith) (omega arith)) (λ k l m u. g (suc k) (omega arith) (omega arith) (omega arith)) (λ k l u. h (suc k) (omega arith) (omega arith))
    ∙ sym (cond-false (p x) (x ∷ filter p xs) (filter p xs) (f 0 (omega arith) (omega arith)))
filter_range p (x ∷ xs) zero (suc c) f g h =
    ap (λ ys. x ∷ ys) (filter_range p xs zero c (λ k l u. absurd (omega arith)) (λ k l m u. g (suc k) (omega arith) (omega arith) (omega arith)) (λ k l u. h (suc k) (omega arith) (omega arith)))
    ∙ sym (cond-true (p x) (x ∷ filter p xs) (filter p xs) (g 0 (omega arith) (omega arith) (omega arith)))
filter_range p (x ∷ xs) zero zero f g h =
    filter_range p xs zero zero (λ k l u. absurd (omega arith)) (λ k l m u. absurd (omega arith)) (λ k l u. h (suc k) (omega arith) (omega arith))
    ∙ sym (cond-false (p x) (x ∷ filter p xs) (filter p xs) (h 0 (omega arith) (omega arith)))

-- one number more of a clause that has it at the depth
more : (depth number : ℕ) (c : List ℕ) → lead (drop depth c) ≡ suc number → (drop depth c ≡ number ∷ drop (depth + 1) c) × (depth + 1 ≤ length c)
more zero number [] h = absurd (omega (arith, h))
more zero number (x ∷ xs) h = let e : x ≡ number = omega (arith, h) in (ap (λ y. y ∷ xs) e, omega arith)
more (suc d) number [] h = absurd (omega (arith, h))
more (suc d) number (x ∷ xs) h =
    let w : (drop d xs ≡ number ∷ drop (d + 1) xs) × (d + 1 ≤ length xs) = more d number xs h in
    let e : suc d + 1 ≡ suc (d + 1) = omega arith in
    (w.0 ∙ ap (λ n. number ∷ drop n (x ∷ xs)) (sym e), omega (arith, w.1))

goes_on_more : (pool : Interned) (depth number id : ℕ) → goes_on pool depth number id ≡ true → (rest_at pool depth id ≡ number ∷ rest_at pool (depth + 1) id) × (depth + 1 ≤ length (clause_at pool id))
goes_on_more pool depth number id h = more depth number (clause_at pool id) (eqb-true (lead (rest_at pool depth id)) (suc number) h)

-- The clauses of a group, by their places.
module _ (pool : Interned) (depth : ℕ) (group : List ℕ) (order : InOrder (map (rest_at pool depth) group)) where
  rest_in : (k : ℕ) → k < length group → get_or (map (rest_at pool depth) group) k [] ≡ rest_at pool depth (get_or group k 0)
  rest_in k l = get_or-map (rest_at pool depth) group k 0 [] l

  size : length (map (rest_at pool depth) group) ≡ length group
  size = length-map group (rest_at pool depth)

  rising : (i j : ℕ) → i ≤ j → j < length group → lead (rest_at pool depth (get_or group i 0)) ≤ lead (rest_at pool depth (get_or group j 0))
  rising i j l m =
      let w : lead (get_or (map (rest_at pool depth) group) i []) ≤ lead (get_or (map (rest_at pool depth) group) j []) =
      order_lead (map (rest_at pool depth) group) order i j l (subst (λ n. j < n) (sym size) m) in
      subst (λ a. lead a ≤ lead (rest_at pool depth (get_or group j 0))) (rest_in i (omega arith))
      (subst (λ b. lead (get_or (map (rest_at pool depth) group) i []) ≤ lead b) (rest_in j m) w)

  -- what is known of one clause holds of those before it, or behind it
  pub below_at : (number place x : ℕ) → place < length group → x ≡ get_or group place x → lead (rest_at pool depth x) ≤ number →
      (k : ℕ) → k < place + 1 → lead (rest_at pool depth (get_or group k 0)) ≤ number
  below_at number place x l e low k m =
      let at : x ≡ get_or group place 0 = e ∙ get_or_default group place x 0 l in
      let w : lead (rest_at pool depth (get_or group k 0)) ≤ lead (rest_at pool depth (get_or group place 0)) = rising k place (omega arith) l in
      let v : lead (rest_at pool depth (get_or group place 0)) ≤ number = subst (λ z. lead (rest_at pool depth z) ≤ number) at low in
      omega (arith, w, v)

  pub above_at : (number place x : ℕ) → place < length group → x ≡ get_or group place x → number < lead (rest_at pool depth x) →
      (k : ℕ) → place ≤ k → k < length group → number < lead (rest_at pool depth (get_or group k 0))
  above_at number place x l e high k m n =
      let at : x ≡ get_or group place 0 = e ∙ get_or_default group place x 0 l in
      let w : lead (rest_at pool depth (get_or group place 0)) ≤ lead (rest_at pool depth (get_or group k 0)) = rising place k m n in
      let v : number < lead (rest_at pool depth (get_or group place 0)) = subst (λ z. number < lead (rest_at pool depth z)) at high in
      omega (arith, w, v)

  -- where the last has no greater number at the depth, none has
  pub each_below : (number k x : ℕ) → suc k ≡ length group → x ≡ get_or group k x → lead (rest_at pool depth x) ≤ number → (id : ℕ) → In id group → lead (rest_at pool depth id) ≤ number
  each_below number k x last e low id i =
      let p : (j : ℕ) × (j < length group) × (get_or group j 0 ≡ id) = In_place group id 0 i in
      subst (λ z. lead (rest_at pool depth z) ≤ number) p.2 (below_at number k x (omega (arith, last)) e low p.0 (omega (arith, p.1, last)))

  -- the clauses that go on with a number stand between two places
  module _ (number start end : ℕ) (start_before : (k : ℕ) → k < start → lead (rest_at pool depth (get_or group k 0)) ≤ number)
      (start_behind : (k : ℕ) → start ≤ k → k < length group → number < lead (rest_at pool depth (get_or group k 0)))
      (end_before : (k : ℕ) → k < end → lead (rest_at pool depth (get_or group k 0)) ≤ number + 1)
      (end_behind : (k : ℕ) → end ≤ k → k < length group → number + 1 < lead (rest_at pool depth (get_or group k 0))) where
    pub in_turn : start ≤ length group → start ≤ end
    in_turn l =
        elim (cases_lt end start) [
          | inl b ↦
              let low : lead (rest_at pool depth (get_or group end 0)) ≤ number = start_before end b in
              let high : number + 1 < lead (rest_at pool depth (get_or group end 0)) = end_behind end (omega arith) (omega (arith, l, b)) in
              absurd (omega (arith, low, high))
          | inr m ↦ m
        ]

    pub group_is : start ≤ end → take (end - start) (drop start group) ≡ filter (goes_on pool depth number) group
    group_is l =
        let whole : start + (end - start) ≡ end = omega (arith, l) in
        filter_range (goes_on pool depth number) group start (end - start)
        (λ k m u. let low : lead (rest_at pool depth (get_or group k 0)) ≤ number = start_before k m in
        ne_eqb (lead (rest_at pool depth (get_or group k 0))) (suc number) (λ e. let f : ⊥ = omega (arith, low, e) in f))
        (λ k m n u. let low : number < lead (rest_at pool depth (get_or group k 0)) = start_behind k m u in
        let high : lead (rest_at pool depth (get_or group k 0)) ≤ number + 1 = end_before k (omega (arith, n, whole)) in
        eq-eqb (lead (rest_at pool depth (get_or group k 0))) (suc number) (omega (arith, low, high)))
        (λ k m u. let high : number + 1 < lead (rest_at pool depth (get_or group k 0)) = end_behind k (omega (arith, m, whole)) u in
        ne_eqb (lead (rest_at pool depth (get_or group k 0))) (suc number) (λ e. let f : ⊥ = omega (arith, high, e) in f))

  -- The clauses that go on with a number.
  module _ (number : ℕ) (part : List ℕ) (part_is : part ≡ filter (goes_on pool depth number) group) where
    pub in_part : (id : ℕ) → In id part → In id group × (goes_on pool depth number id ≡ true)
    in_part id i = filter_cases (goes_on pool depth number) group id (subst (λ z. In id z) part_is i)

    pub part_deep : (id : ℕ) → In id part → depth + 1 ≤ length (clause_at pool id)
    part_deep id i = (goes_on_more pool depth number id (in_part id i).1).1

    pub part_in_order : InOrder (map (rest_at pool (depth + 1)) part)
    part_in_order = subst (λ z. InOrder (map (rest_at pool (depth + 1)) z)) (sym part_is) (kept group order)
      where
        after : (i j : ℕ) → goes_on pool depth number i ≡ true → goes_on pool depth number j ≡ true → Before (rest_at pool depth i) (rest_at pool depth j) → Before (rest_at pool (depth + 1) i) (rest_at pool (depth + 1) j)
        after i j g h b =
            elim (subst (λ z. Before z (number ∷ rest_at pool (depth + 1) j)) (goes_on_more pool depth number i g).0 (subst (λ z. Before (rest_at pool depth i) z) (goes_on_more pool depth number j h).0 b)) [
              | inl l ↦ let f : number < number = l in absurd (omega arith)
              | inr e ↦ e.1
            ]

        kept : (ids : List ℕ) → InOrder (map (rest_at pool depth) ids) → InOrder (map (rest_at pool (depth + 1)) (filter (goes_on pool depth number) ids))
        kept [] o = tt
        kept (i ∷ ids) o = pick (goes_on pool depth number i) refl (kept ids o.1)
          where
            pick : (b : Bool) → goes_on pool depth number i ≡ b → InOrder (map (rest_at pool (depth + 1)) (filter (goes_on pool depth number) ids)) →
                InOrder (map (rest_at pool (depth + 1)) (cond b (i ∷ filter (goes_on pool depth number) ids) (filter (goes_on pool depth number) ids)))
            pick true e r = (
              λ d m.
                  let w : (x : ℕ) × In x (filter (goes_on pool depth number) ids) × (d ≡ rest_at pool (depth + 1) x) = In_map_cases (rest_at pool (depth + 1)) (filter (goes_on pool depth number) ids) d m in
                  let v : In w.0 ids × (goes_on pool depth number w.0 ≡ true) = filter_cases (goes_on pool depth number) ids w.0 w.1 in
                  subst (λ z. Before (rest_at pool (depth + 1) i) z) (sym w.2) (after i w.0 e v.1 (o.0 (rest_at pool depth w.0) (In_map (rest_at pool depth) ids w.0 v.0))),
              r,
            )
            pick false e r = r

-- a number of an ascending clause that is greater than the one at a place is behind it
behind : (k : ℕ) (xs : List ℕ) (n : ℕ) → Ascending xs → k < length xs → get_or xs k 0 < n → In n xs → In n (drop (suc k) xs)
behind k [] n a l g h = absurd (In_none h)
behind zero (x ∷ xs) n a l g h = elim (In_cases h) [ inl e ↦ absurd (omega (arith, e)) | inr r ↦ r ]
behind (suc k) (x ∷ xs) n a l g h =
    elim (In_cases h) [
      | inl e ↦ absurd (let m : x < get_or xs k 0 = a.0 (get_or xs k 0) (In_at xs k 0 (omega arith)) in omega (arith, e, m))
      | inr r ↦ behind k xs n a.1 (omega arith) g r
    ]

inside_more : (i : ℕ) (xs wanted : List ℕ) → is_inside xs (drop i wanted) ≡ true → is_inside xs wanted ≡ true
inside_more i xs wanted h = all_from (has wanted) xs (λ n j. In_has (In_drop i wanted n (has_In (drop i wanted) n (all_at (has (drop i wanted)) xs h n j))))

inside_behind : (k : ℕ) (xs wanted : List ℕ) → Ascending wanted → k < length wanted → ((n : ℕ) → In n xs → get_or wanted k 0 < n) → is_inside xs wanted ≡ true → is_inside xs (drop (suc k) wanted) ≡ true
inside_behind k xs wanted a l g h =
    all_from (has (drop (suc k) wanted)) xs (λ n j. In_has (behind k wanted n a l (g n j) (has_In wanted n (all_at (has wanted) xs h n j))))

-- of clauses in order only the first is empty
empty_first : (pool : Interned) (depth : ℕ) (group : List ℕ) → InOrder (map (rest_at pool depth) group) → (id : ℕ) → In id group → rest_at pool depth id ≡ [] → id ≡ get_or group 0 0
empty_first pool depth [] o id i e = absurd (In_none i)
empty_first pool depth (x ∷ xs) o id i e =
    elim (In_cases i) [
      | inl same ↦ same
      | inr j ↦ absurd (not_before (rest_at pool depth x) (subst (λ z. Before (rest_at pool depth x) z) e (o.0 (rest_at pool depth id) (In_map (rest_at pool depth) xs id j))))
    ]
  where
    not_before : (c : List ℕ) → Before c [] → ⊥
    not_before [] b = b
    not_before (y ∷ ys) b = b

-- whether one of those that go on with the wanted number at a place goes on with numbers behind it
abbrev pub part_within : Interned → Option (List ℕ) → ℕ → List ℕ → List ℕ → ℕ → Bool
part_within pool but depth group wanted k = list_any (rest_within pool but (depth + 1) (drop (k + 1) wanted)) (filter (goes_on pool depth (get_or wanted k 0)) group)

-- What is wanted of a group is wanted of its parts.
module _ (pool : Interned) (but : Option (List ℕ)) (depth : ℕ) (group : List ℕ) (order : InOrder (map (rest_at pool depth) group)) (wanted : List ℕ) where
  pub one_within : (k : ℕ) → k < length wanted → part_within pool but depth group wanted k ≡ true → list_any (rest_within pool but depth wanted) group ≡ true
  one_within k l h =
      let number : ℕ = get_or wanted k 0 in
      let w : (id : ℕ) × In id (filter (goes_on pool depth number) group) × (rest_within pool but (depth + 1) (drop (k + 1) wanted) id ≡ true) =
      any_cases (rest_within pool but (depth + 1) (drop (k + 1) wanted)) (filter (goes_on pool depth number) group) h in
      let v : In w.0 group × (goes_on pool depth number w.0 ≡ true) = filter_cases (goes_on pool depth number) group w.0 w.1 in
      let b : (is_other but (clause_at pool w.0) ≡ true) × (is_inside (rest_at pool (depth + 1) w.0) (drop (k + 1) wanted) ≡ true) =
      and_parts (is_other but (clause_at pool w.0)) (is_inside (rest_at pool (depth + 1) w.0) (drop (k + 1) wanted)) w.2 in
      any_from (rest_within pool but depth wanted) group w.0 v.0
      (and_from (is_other but (clause_at pool w.0)) (is_inside (rest_at pool depth w.0) wanted) b.0
      (ap (λ z. is_inside z wanted) (goes_on_more pool depth number w.0 v.1).0
      ∙ and_from (has wanted number) (is_inside (rest_at pool (depth + 1) w.0) wanted) (In_has (In_at wanted k 0 l)) (inside_more (k + 1) (rest_at pool (depth + 1) w.0) wanted b.1)))

  -- where each has a lesser number than a wanted one, none goes on with it or one behind it
  none_beyond : Ascending wanted → (k : ℕ) → ((id : ℕ) → In id group → lead (rest_at pool depth id) ≤ get_or wanted k 0) → (j : ℕ) → k ≤ j → j < length wanted → part_within pool but depth group wanted j ≡ false
  none_beyond a k below j l u =
      false_from_ne_true (part_within pool but depth group wanted j) (λ h.
      let number : ℕ = get_or wanted j 0 in
      let w : (id : ℕ) × In id (filter (goes_on pool depth number) group) × (rest_within pool but (depth + 1) (drop (j + 1) wanted) id ≡ true) =
      any_cases (rest_within pool but (depth + 1) (drop (j + 1) wanted)) (filter (goes_on pool depth number) group) h in
      let v : In w.0 group × (goes_on pool depth number w.0 ≡ true) = filter_cases (goes_on pool depth number) group w.0 w.1 in
      let e : lead (rest_at pool depth w.0) ≡ suc number = eqb-true (lead (rest_at pool depth w.0)) (suc number) v.1 in
      let low : lead (rest_at pool depth w.0) ≤ get_or wanted k 0 = below w.0 v.0 in
      let up : get_or wanted k 0 ≤ number = ascending_places wanted a k j l u in
      omega (arith, e, low, up))

  -- a clause within the wanted numbers is the first, or goes on with one of them
  pub none_within : ((id : ℕ) → In id group → Ascending (clause_at pool id)) → Ascending wanted → rest_within pool but depth wanted (get_or group 0 0) ≡ false
      → ((k : ℕ) → k < length wanted → part_within pool but depth group wanted k ≡ false) → list_any (rest_within pool but depth wanted) group ≡ false
  none_within rises up head f =
      false_from_ne_true (list_any (rest_within pool but depth wanted) group) (λ h.
      let w : (id : ℕ) × In id group × (rest_within pool but depth wanted id ≡ true) = any_cases (rest_within pool but depth wanted) group h in
      let b : (is_other but (clause_at pool w.0) ≡ true) × (is_inside (rest_at pool depth w.0) wanted ≡ true) =
      and_parts (is_other but (clause_at pool w.0)) (is_inside (rest_at pool depth w.0) wanted) w.2 in
      each w.0 w.1 w.2 b.0 b.1 (rest_at pool depth w.0) refl)
    where
      each : (id : ℕ) → In id group → rest_within pool but depth wanted id ≡ true → is_other but (clause_at pool id) ≡ true → is_inside (rest_at pool depth id) wanted ≡ true
          → (xs : List ℕ) → rest_at pool depth id ≡ xs → ⊥
      each id i t other inside [] e =
          both_ways (rest_within pool but depth wanted id) (ap (rest_within pool but depth wanted) (empty_first pool depth group order id i e) ∙ head) t
      each id i t other inside (x ∷ xs) e =
          let on : goes_on pool depth x id ≡ true = eq-eqb (lead (rest_at pool depth id)) (suc x) (ap lead e) in
          let cut : rest_at pool depth id ≡ x ∷ rest_at pool (depth + 1) id = (goes_on_more pool depth x id on).0 in
          let parts : (has wanted x ≡ true) × (is_inside (rest_at pool (depth + 1) id) wanted ≡ true) =
          and_parts (has wanted x) (is_inside (rest_at pool (depth + 1) id) wanted) (sym (ap (λ z. is_inside z wanted) cut) ∙ inside) in
          let p : (k : ℕ) × (k < length wanted) × (get_or wanted k 0 ≡ x) = In_place wanted x 0 (has_In wanted x parts.0) in
          let greater : Ascending (x ∷ rest_at pool (depth + 1) id) = subst Ascending cut (rest_ascends depth (clause_at pool id) (rises id i)) in
          let next : suc p.0 ≡ p.0 + 1 = omega arith in
          let rest : is_inside (rest_at pool (depth + 1) id) (drop (p.0 + 1) wanted) ≡ true =
          subst (λ k. is_inside (rest_at pool (depth + 1) id) (drop k wanted) ≡ true) next
          (inside_behind p.0 (rest_at pool (depth + 1) id) wanted up p.1 (λ n j. subst (λ z. z < n) (sym p.2) (greater.0 n j)) parts.1) in
          both_ways (part_within pool but depth group wanted p.0) (f p.0 p.1)
          (any_from (rest_within pool but (depth + 1) (drop (p.0 + 1) wanted)) (filter (goes_on pool depth (get_or wanted p.0 0)) group) id
          (filter_from (goes_on pool depth (get_or wanted p.0 0)) group id i (ap (λ n. goes_on pool depth n id) p.2 ∙ on))
          (and_from (is_other but (clause_at pool id)) (is_inside (rest_at pool (depth + 1) id) (drop (p.0 + 1) wanted)) other rest))

  -- what comes behind a number that each is below need not be looked at
  pub none_further : ((id : ℕ) → In id group → Ascending (clause_at pool id)) → Ascending wanted → rest_within pool but depth wanted (get_or group 0 0) ≡ false
      → (k : ℕ) → ((id : ℕ) → In id group → lead (rest_at pool depth id) ≤ get_or wanted k 0)
      → ((j : ℕ) → j < k → part_within pool but depth group wanted j ≡ false) → list_any (rest_within pool but depth wanted) group ≡ false
  none_further rises up head k below f =
      none_within rises up head (λ j u. elim (cases_lt j k) [ inl l ↦ f j l | inr m ↦ none_beyond up k below j m u ])

-- a row is its own group at depth 0
pub whole_row : (pool : Interned) (but : Option (List ℕ)) (numbers row : List ℕ) → list_any (rest_within pool but 0 numbers) row ≡ some_within but numbers (clauses_at pool row)
whole_row pool but numbers [] = refl
whole_row pool but numbers (id ∷ ids) = ap (λ z. rest_within pool but 0 numbers id || z) (whole_row pool but numbers ids)

pub none_places : (test : ℕ → Bool) (ids : List ℕ) → ((k : ℕ) → k < length ids → test (get_or ids k 0) ≡ false) → list_any test ids ≡ false
none_places test [] f = refl
none_places test (id ∷ ids) f = ap (λ b. b || list_any test ids) (f 0 (omega arith)) ∙ none_places test ids (λ k l. f (suc k) (omega arith))
