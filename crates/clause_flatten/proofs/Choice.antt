-- The package that is taken out next: the one of least key, and of these the least number.
use Rattle.std.proofs.Common.{◌≡◌, ℕ, ◌<◌, ◌≤◌, Bool, true, false, not, ◌&&◌, eqb, ltb, List, [], ◌∷◌, ◌⊎◌, inl, inr, sym, subst, arith, filter, Some, None}
use Rattle.std.proofs.Common.{eq-eqb, eqb-true}
use Rattle.std.proofs.lemmas.Bool.{both_ways, cases_Bool, cases_order, cases_lt, and_parts, and_from, or_cases, or_left, or_right, not-true, not_from_false}
use Rattle.std.proofs.lemmas.Bool.{false_from_ne_true, ltb-true, lt-ltb}
use Rattle.std.specs.List.{list_all}
use Rattle.listed.specs.Lists.{In, here, there}
use Rattle.row_book.specs.Flattening.{sooner, is_soonest, soonest}
use Rattle.listed.proofs.Lists.{In_cases, In_none, filter_from, filter_cases, all_from, all_at, find_some, find_none, find_not, find_only}

module _ (key : ℕ → ℕ) where
  sooner_parts : (q r : ℕ) → sooner key q r ≡ true → (key q < key r) ⊎ ((key q ≡ key r) × (q < r))
  sooner_parts q r h =
      elim (or_cases (ltb (key q) (key r)) (eqb (key q) (key r) && ltb q r) h) [
        | inl l ↦ inl (ltb-true (key q) (key r) l)
        | inr b ↦
            let w : (eqb (key q) (key r) ≡ true) × (ltb q r ≡ true) = and_parts (eqb (key q) (key r)) (ltb q r) b in
            inr (eqb-true (key q) (key r) w.0, ltb-true q r w.1)
      ]

  sooner_less : (q r : ℕ) → key q < key r → sooner key q r ≡ true
  sooner_less q r l = or_left (ltb (key q) (key r)) (eqb (key q) (key r) && ltb q r) (lt-ltb (key q) (key r) l)

  sooner_same : (q r : ℕ) → key q ≡ key r → q < r → sooner key q r ≡ true
  sooner_same q r e l =
      or_right (ltb (key q) (key r)) (eqb (key q) (key r) && ltb q r) (and_from (eqb (key q) (key r)) (ltb q r) (eq-eqb (key q) (key r) e) (lt-ltb q r l))

  sooner_never : (q : ℕ) → sooner key q q ≡ true → ⊥
  sooner_never q h = elim (sooner_parts q q h) [ inl l ↦ omega arith | inr w ↦ let l : q < q = w.1 in omega arith ]

  sooner_trans : (p q r : ℕ) → sooner key p q ≡ true → sooner key q r ≡ true → sooner key p r ≡ true
  sooner_trans p q r h k =
      elim (sooner_parts p q h) [
        | inl l ↦ elim (sooner_parts q r k) [
          | inl m ↦ sooner_less p r (omega arith)
          | inr w ↦ let e : key q ≡ key r = w.0 in sooner_less p r (omega arith)
        ]
        | inr v ↦ let d : key p ≡ key q = v.0 in elim (sooner_parts q r k) [
          | inl m ↦ sooner_less p r (omega arith)
          | inr w ↦ let e : key q ≡ key r = w.0 in let a : p < q = v.1 in let b : q < r = w.1 in sooner_same p r (omega arith) (omega arith)
        ]
      ]

  sooner_one : (q r : ℕ) → sooner key q r ≡ false → sooner key r q ≡ false → q ≡ r
  sooner_one q r h k =
      elim (cases_order (key q) (key r)) [
        | inr (inl l) ↦ absurd (both_ways (sooner key q r) h (sooner_less q r l))
        | inr (inr l) ↦ absurd (both_ways (sooner key r q) k (sooner_less r q l))
        | inl e ↦ elim (cases_order q r) [
          | inl same ↦ same
          | inr (inl l) ↦ absurd (both_ways (sooner key q r) h (sooner_same q r e l))
          | inr (inr l) ↦ absurd (both_ways (sooner key r q) k (sooner_same r q (sym e) l))
        ]
      ]

  -- of some numbers one is not after any other
  least_one : (x : ℕ) (xs : List ℕ) → (q : ℕ) × In q (x ∷ xs) × ((r : ℕ) → In r (x ∷ xs) → sooner key r q ≡ true → ⊥)
  least_one x [] =
      (x, here, λ r i h. elim (In_cases i) [ inl e ↦ sooner_never x (subst (λ z. sooner key z x ≡ true) e h) | inr j ↦ In_none j ])
  least_one x (y ∷ ys) =
      let w : (q : ℕ) × In q (y ∷ ys) × ((r : ℕ) → In r (y ∷ ys) → sooner key r q ≡ true → ⊥) = least_one y ys in
      elim (cases_Bool (sooner key x w.0)) [
        | inl t ↦ (
          x,
          here,
          λ r i h. elim (In_cases i) [
            | inl e ↦ sooner_never x (subst (λ z. sooner key z x ≡ true) e h)
            | inr j ↦ w.2 r j (sooner_trans r x w.0 h t)
          ],
        )
        | inr f ↦ (
          w.0,
          there w.1,
          λ r i h. elim (In_cases i) [
            | inl e ↦ both_ways (sooner key x w.0) f (subst (λ z. sooner key z w.0 ≡ true) e h)
            | inr j ↦ w.2 r j h
          ],
        )
      ]

  module _ (may : ℕ → Bool) (xs : List ℕ) where
    soonest_parts : (q : ℕ) → is_soonest key may xs q ≡ true → (may q ≡ true) × ((r : ℕ) → In r xs → may r ≡ true → sooner key r q ≡ false)
    soonest_parts q h =
        let w : (may q ≡ true) × (list_all (λ r. not (may r && sooner key r q)) xs ≡ true) = and_parts (may q) (list_all (λ r. not (may r && sooner key r q)) xs) h in (
          w.0,
          λ r i m. false_from_ne_true (sooner key r q) (λ s.
              both_ways (may r && sooner key r q) (not-true (may r && sooner key r q) (all_at (λ r. not (may r && sooner key r q)) xs w.1 r i)) (and_from (may r) (sooner key r q) m s)),
        )

    soonest_test : (q : ℕ) → may q ≡ true → ((r : ℕ) → In r xs → may r ≡ true → sooner key r q ≡ true → ⊥) → is_soonest key may xs q ≡ true
    soonest_test q m f =
        and_from (may q) (list_all (λ r. not (may r && sooner key r q)) xs) m
        (all_from (λ r. not (may r && sooner key r q)) xs (λ r i. not_from_false (may r && sooner key r q) (false_from_ne_true (may r && sooner key r q) (λ h.
        let w : (may r ≡ true) × (sooner key r q ≡ true) = and_parts (may r) (sooner key r q) h in f r i w.0 w.1))))

    -- what is chosen may be
    pub soonest_is : (q : ℕ) → soonest key may xs ≡ Some q → In q xs × (may q ≡ true)
    soonest_is q e =
        let w : In q xs × (is_soonest key may xs q ≡ true) = find_some (is_soonest key may xs) xs q e in
        (w.0, (soonest_parts q w.1).0)

    -- and none that may be goes sooner
    pub soonest_least : (q : ℕ) → soonest key may xs ≡ Some q → (r : ℕ) → In r xs → may r ≡ true → (key q < key r) ⊎ ((key q ≡ key r) × (q ≤ r))
    soonest_least q e r i m =
        let no_sooner : sooner key r q ≡ false = (soonest_parts q (find_some (is_soonest key may xs) xs q e).1).1 r i m in
        elim (cases_order (key q) (key r)) [
          | inl same ↦ elim (cases_lt r q) [
            | inl l ↦ absurd (both_ways (sooner key r q) no_sooner (sooner_same r q (sym same) l))
            | inr g ↦ inr (same, g)
          ]
          | inr (inl l) ↦ inl l
          | inr (inr l) ↦ absurd (both_ways (sooner key r q) no_sooner (sooner_less r q l))
        ]

    -- where none is chosen none may be
    pub soonest_none : soonest key may xs ≡ None → (q : ℕ) → In q xs → may q ≡ true → ⊥
    soonest_none e q i m = go (filter may xs) (filter_from may xs q i m) (λ r j. filter_cases may xs r j) (λ r j k. filter_from may xs r j k)
      where
        go : (ys : List ℕ) → In q ys → ((r : ℕ) → In r ys → In r xs × (may r ≡ true)) → ((r : ℕ) → In r xs → may r ≡ true → In r ys) → ⊥
        go [] j f g = In_none j
        go (y ∷ ys) j f g =
            let w : (q : ℕ) × In q (y ∷ ys) × ((r : ℕ) → In r (y ∷ ys) → sooner key r q ≡ true → ⊥) = least_one y ys in
            both_ways (is_soonest key may xs w.0) (find_none (is_soonest key may xs) xs e w.0 (f w.0 w.1).0)
            (soonest_test w.0 (f w.0 w.1).1 (λ r k l s. w.2 r (g r k l) s))

    pub none_soonest : ((q : ℕ) → In q xs → may q ≡ true → ⊥) → soonest key may xs ≡ None
    none_soonest f = find_not (is_soonest key may xs) xs (λ q i. false_from_ne_true (is_soonest key may xs q) (λ h. f q i (soonest_parts q h).0))

    -- one that may be, such that none that may be goes sooner, is chosen
    pub soonest_from : (q : ℕ) → In q xs → may q ≡ true → ((r : ℕ) → In r xs → may r ≡ true → (key q < key r) ⊎ ((key q ≡ key r) × (q ≤ r))) → soonest key may xs ≡ Some q
    soonest_from q i m f =
        let no_sooner : (r : ℕ) → In r xs → may r ≡ true → sooner key r q ≡ true → ⊥ =
        λ r j n h. elim (sooner_parts r q h) [
          | inl l ↦ elim (f r j n) [ inl k ↦ omega arith | inr w ↦ let e : key q ≡ key r = w.0 in omega arith ]
          | inr v ↦ let d : key r ≡ key q = v.0 in let u : r < q = v.1 in elim (f r j n) [ inl k ↦ omega arith | inr w ↦ let g : q ≤ r = w.1 in omega arith ]
        ] in
        find_only (is_soonest key may xs) xs q i (soonest_test q m no_sooner)
        (λ z k h.
        let w : (may z ≡ true) × ((r : ℕ) → In r xs → may r ≡ true → sooner key r z ≡ false) = soonest_parts z h in
        sooner_one z q (false_from_ne_true (sooner key z q) (no_sooner z k w.0)) (w.1 q i m))
