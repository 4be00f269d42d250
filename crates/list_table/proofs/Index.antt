-- Walks over the places of an index.
use Rattle.std.proofs.Common.{◌≡◌, ◌≢◌, ℕ, zero, suc, ◌<◌, ◌≤◌, ◌-◌, ◌+◌, ◌*◌, List, [], ◌∷◌, ◌++◌, map, length, take, get_or, inl, inr, refl, sym, ◌∙◌, ap}
use Rattle.std.proofs.{Common.{ap₂, subst, arith, length-append, set, get_or-set_other, get_or-set_same}, lemmas.Nat.{and_le_r}}
use Rattle.std.proofs.{lemmas.Bool.{cases_lt, cases_eq}, lemmas.List.{length-map, get_or-map, get_or_append_left, get_or_push}}
use Rattle.std.proofs.{lemmas.List.Sums.{sum_by-set, sum_by-cons, sum_by_more}, Math.ListN.{length-set}, Math.Nat.{pow-suc}}
use Rattle.std.specs.Int.Bits.{bit_and}
use Rattle.list_table.specs.Index.{home, place_at, one_if_zero, is_free, free, Reaches, NoneFreeBefore, IsFirstFree, IsFoundFrom, Puts, IsIndex, IsSize}
use Rattle.list_table.specs.Lists.{StandsAt}

pub home_below : (hash size : ℕ) → 0 < size → home hash size < size
unfolding home
home_below hash size l = let le : bit_and hash (size - 1) ≤ size - 1 = and_le_r hash (size - 1) in omega arith

-- a walk goes on
pub Reaches_first : (size start : ℕ) → start < size → Reaches size start 0 start
Reaches_first size start l = (l, inl (omega arith))

pub Reaches_next : (size start k place : ℕ) → start < size → k < size → Reaches size start k place → place + 1 < size → Reaches size start (k + 1) (place + 1)
Reaches_next size start k place s l r n = (n, elim r.1 [ inl a ↦ inl (omega arith) | inr b ↦ inr (omega arith) ])

pub Reaches_turn : (size start k place : ℕ) → start < size → k < size → Reaches size start k place → place + 1 ≡ size → Reaches size start (k + 1) 0
Reaches_turn size start k place s l r n = (omega arith, inr (elim r.1 [ inl a ↦ omega arith | inr b ↦ absurd (omega arith) ]))

pub Reaches_one : (size start k p q : ℕ) → Reaches size start k p → Reaches size start k q → p ≡ q
Reaches_one size start k p q r s =
    elim r.1 [
      | inl a ↦ elim s.1 [ inl b ↦ omega arith | inr b ↦ absurd (omega (arith, r.0, s.0)) ]
      | inr a ↦ elim s.1 [ inl b ↦ absurd (omega (arith, r.0, s.0)) | inr b ↦ omega arith ]
    ]

Reaches_each : (size start place : ℕ) → start < size → place < size → (k : ℕ) × (k < size) × Reaches size start k place
Reaches_each size start place s l =
    elim (cases_lt place start) [
      | inl b ↦ (place + size - start, omega arith, (l, inr (omega arith)))
      | inr b ↦ (place - start, omega arith, (l, inl (omega arith)))
    ]

-- one step more
pub Filled_more : (places : List (ℕ × ℕ)) (start k place : ℕ) → Reaches (length places) start k place → 0 < (place_at places place).1 → NoneFreeBefore places start k → NoneFreeBefore places start (k + 1)
Filled_more places start k place r full filled j q l s =
    elim (cases_lt j k) [
      | inl b ↦ filled j q b s
      | inr b ↦
          let e : j ≡ k = omega arith in
          let same : place ≡ q = Reaches_one (length places) start k place q r (subst (λ i. Reaches (length places) start i q) e s) in
          subst (λ p. 0 < (place_at places p).1) same full
    ]

-- how many places are free
pub is_full : (hash entry : ℕ) → 0 < entry → is_free (hash, entry) ≡ 0
is_full hash zero l = absurd (omega arith)
is_full hash (suc n) l = refl

free_none : (places : List (ℕ × ℕ)) → ((i : ℕ) → i < length places → 0 < (place_at places i).1) → free places ≡ 0
free_none [] full = refl
free_none (p ∷ ps) full =
    let first : is_free p ≡ 0 = is_full p.0 p.1 (full 0 (omega arith)) in
    let rest : free ps ≡ 0 = free_none ps (λ i l. full (suc i) (omega arith)) in
    sum_by-cons is_free p ps ∙ ap₂ (λ a b. a + b) first rest

pub some_place : (places : List (ℕ × ℕ)) → 0 < free places → 0 < length places
some_place [] l = absurd (omega arith)
some_place (p ∷ ps) l = omega arith

pub not_all_filled : (places : List (ℕ × ℕ)) (start : ℕ) → start < length places → 0 < free places → NoneFreeBefore places start (length places) → ⊥
not_all_filled places start s l filled =
    let none : free places ≡ 0 = free_none places (λ i m.
    let w : (k : ℕ) × (k < length places) × Reaches (length places) start k i = Reaches_each (length places) start i s m in
    filled w.0 i w.1 w.2) in
    omega arith

-- the entries of the first of some places, in an index of another size
pub record Moves (from places : List (ℕ × ℕ)) (size i : ℕ) : Type 0 where
  pub len : length places ≡ size
  pub found : (place hash number : ℕ) → place < i → place_at from place ≡ (hash, number + 1) → IsFoundFrom places (home hash (length places)) hash number
  pub named : (place : ℕ) → place < length places → 0 < (place_at places place).1 → (before : ℕ) × (before < length from) × (place_at places place ≡ place_at from before)
  pub room : free places + i ≡ size + free (take i from)

-- one entry more
module _ (places : List (ℕ × ℕ)) (hash number place : ℕ) (at : IsFirstFree places (home hash (length places)) place) where
  abbrev after : List (ℕ × ℕ)
  after = set places place (hash, number + 1)

  len : length after ≡ length places
  len = length-set places place (hash, number + 1)

  within : place < length places
  within = at.reached.0

  here_now : place_at after place ≡ (hash, number + 1)
  here_now = get_or-set_same places place (hash, number + 1) (0, 0) within

  else_same : (q : ℕ) → q ≢ place → place_at after q ≡ place_at places q
  else_same q ne = get_or-set_other places place q (hash, number + 1) (0, 0) ne

  still : (q : ℕ) → 0 < (place_at places q).1 → 0 < (place_at after q).1
  still q full =
      elim (cases_eq q place) [
        | inl e ↦ let f : (place_at after q).1 ≡ number + 1 = ap (λ i. (place_at after i).1) e ∙ ap (λ p. p.1) here_now in omega arith
        | inr ne ↦ let f : (place_at after q).1 ≡ (place_at places q).1 = ap (λ p. p.1) (else_same q ne) in omega arith
      ]

  still_filled : (start steps : ℕ) → NoneFreeBefore places start steps → NoneFreeBefore after start steps
  still_filled start steps filled k q l r = still q (filled k q l (subst (λ n. Reaches n start k q) len r))

  found_old : (start h n : ℕ) → IsFoundFrom places start h n → IsFoundFrom after start h n
  found_old start h n f = record {
    steps = f.steps;
    place = f.place;
    short = omega (arith, f.short, len);
    reached = subst (λ n. Reaches n start f.steps f.place) (sym len) f.reached;
    names = else_same f.place (λ e.
        let full : (place_at places f.place).1 ≡ n + 1 = ap (λ p. p.1) f.names in
        let none : (place_at places f.place).1 ≡ 0 = ap (λ i. (place_at places i).1) e ∙ at.empty in
        omega arith) ∙ f.names;
    filled = still_filled start f.steps f.filled;
  }

  found_new : IsFoundFrom after (home hash (length places)) hash number
  found_new = record {
    steps = at.steps;
    place = place;
    short = omega (arith, at.short, len);
    reached = subst (λ n. Reaches n (home hash (length places)) at.steps place) (sym len) at.reached;
    names = here_now;
    filled = still_filled (home hash (length places)) at.steps at.filled;
  }

  as_of : (h n x : ℕ) → x ≡ h → IsFoundFrom after (home h (length places)) h n → IsFoundFrom after (home x (length after)) x n
  as_of h n x e f = subst (λ m. IsFoundFrom after (home x m) x n) (sym len) (subst (λ y. IsFoundFrom after (home y (length places)) y n) (sym e) f)

  as_new : (n x : ℕ) → x ≡ hash → n ≡ number → IsFoundFrom after (home x (length after)) x n
  as_new n x e f = as_of hash n x e (subst (λ m. IsFoundFrom after (home hash (length places)) hash m) (sym f) found_new)

  one_less : free after + 1 ≡ free places
  one_less =
      let moved : free after + is_free (place_at places place) ≡ free places + is_free (hash, number + 1) = sum_by-set is_free places place (hash, number + 1) (0, 0) within in
      let was : is_free (place_at places place) ≡ 1 = ap one_if_zero at.empty in
      let now : is_free (hash, number + 1) ≡ 0 = is_full hash (number + 1) (omega arith) in
      omega arith

  -- behind the others
  module _ (hashes : List ℕ) (count : length hashes ≡ number) (is : IsIndex places hashes) where
    more : length (hashes ++ hash ∷ []) ≡ length hashes + 1
    more = length-append hashes (hash ∷ [])

    pub index_put : IsIndex after (hashes ++ hash ∷ [])
    index_put = record {
      found = λ n l.
          elim (cases_lt n (length hashes)) [
            | inl b ↦ as_of (get_or hashes n 0) n (get_or (hashes ++ hash ∷ []) n 0) (get_or_append_left hashes (hash ∷ []) 0 n b)
                (found_old (home (get_or hashes n 0) (length places)) (get_or hashes n 0) n (is.found n b))
            | inr b ↦
                let e : n ≡ number = omega (arith, more, count) in
                as_new n (get_or (hashes ++ hash ∷ []) n 0) (get_or_push hashes hash 0 n (count ∙ sym e)) e
          ];
      named = λ q l full.
          elim (cases_eq q place) [
            | inl e ↦ let f : (place_at after q).1 ≡ number + 1 = ap (λ i. (place_at after i).1) e ∙ ap (λ p. p.1) here_now in omega (arith, more, count)
            | inr ne ↦
                let f : (place_at after q).1 ≡ (place_at places q).1 = ap (λ p. p.1) (else_same q ne) in
                let old : (place_at places q).1 ≤ length hashes = is.named q (omega (arith, len)) (omega arith) in
                omega (arith, more)
          ];
      room = omega (arith, is.room, more, len, one_less);
    }

  -- among others that come from other places
  module _ (from : List (ℕ × ℕ)) (size i : ℕ) (is : Moves from places size i) (inside : i < length from) (names : place_at from i ≡ (hash, number + 1)) where
    moves_put : Moves from after size (i + 1)
    moves_put = record {
      len = len ∙ is.len;
      found = λ q x n l e.
          elim (cases_lt q i) [
            | inl b ↦ as_of x n x refl (found_old (home x (length places)) x n (is.found q x n b e))
            | inr b ↦
                let same : (x, n + 1) ≡ (hash, number + 1) = sym e ∙ ap (place_at from) (let f : q ≡ i = omega arith in f) ∙ names in
                let entry : n + 1 ≡ number + 1 = ap (λ p. p.1) same in
                as_new n x (ap (λ p. p.0) same) (omega arith)
          ];
      named = λ q l full.
          elim (cases_eq q place) [
            | inl e ↦ (i, inside, ap (place_at after) e ∙ here_now ∙ sym names)
            | inr ne ↦
                let f : (place_at after q).1 ≡ (place_at places q).1 = ap (λ p. p.1) (else_same q ne) in
                let w : (p : ℕ) × (p < length from) × (place_at places q ≡ place_at from p) = is.named q (omega (arith, len)) (omega arith) in
                (w.0, w.1, else_same q ne ∙ w.2)
          ];
      room =
          let taken : free (take (i + 1) from) ≡ free (take i from) + is_free (place_at from i) = sum_by_more is_free from i (0, 0) inside in
          let full : is_free (place_at from i) ≡ 0 = ap is_free names ∙ is_full hash (number + 1) (omega arith) in
          omega (arith, is.room, one_less);
    }

module _ (from places : List (ℕ × ℕ)) (size i : ℕ) (is : Moves from places size i) where
  -- an empty place is left out
  pub Moves_empty : i < length from → (place_at from i).1 ≡ 0 → Moves from places size (i + 1)
  Moves_empty inside empty = record {
    len = is.len;
    found = λ q x n l e.
        elim (cases_lt q i) [
          | inl b ↦ is.found q x n b e
          | inr b ↦
              let f : q ≡ i = omega arith in
              let g : n + 1 ≡ 0 = sym (ap (λ p. p.1) e) ∙ ap (λ j. (place_at from j).1) f ∙ empty in
              absurd (omega arith)
        ];
    named = is.named;
    room =
        let taken : free (take (i + 1) from) ≡ free (take i from) + is_free (place_at from i) = sum_by_more is_free from i (0, 0) inside in
        let one : is_free (place_at from i) ≡ 1 = ap one_if_zero empty in
        omega (arith, is.room);
  }

  pub Moves_one : i < length from → 0 < (place_at from i).1 → (new : List (ℕ × ℕ)) → Puts places new (place_at from i).0 ((place_at from i).1 - 1 + 1) → Moves from new size (i + 1)
  Moves_one inside full new put =
      let e : (place_at from i).1 ≡ (place_at from i).1 - 1 + 1 = omega arith in
      subst (λ p. Moves from p size (i + 1)) (sym put.now)
      (moves_put places (place_at from i).0 ((place_at from i).1 - 1) put.place put.at from size i is inside (ap (λ n. ((place_at from i).0, n)) e))

-- a larger index has twice as many places, or the first eight
pub IsSize_first : IsSize 8
IsSize_first = inr (3, refl)

pub IsSize_twice : (size : ℕ) → 0 < size → IsSize size → IsSize (size * 2)
IsSize_twice size l (inl e) = absurd (omega arith)
IsSize_twice size l (inr w) = inr (suc w.0, ap (λ n. n * 2) w.1 ∙ sym (pow-suc 2 w.0))

-- what a walk for a list has passed: no empty place, and no entry of that list
pub record Passed {A : Type 0} (places : List (ℕ × ℕ)) (lists : List (List A)) (items : List A) (hash start steps : ℕ) : Type 0 where
  pub filled : NoneFreeBefore places start steps
  pub other : (k place n : ℕ) → k < steps → Reaches (length places) start k place → place_at places place ≡ (hash, n + 1) → n < length lists → get_or lists n [] ≡ items → ⊥

module _ {A : Type 0} (hash_of : List A → ℕ) (places : List (ℕ × ℕ)) (lists : List (List A)) (items : List A) where
  pub Passed_none : (hash start : ℕ) → Passed places lists items hash start 0
  Passed_none hash start = record {
    filled = λ k q l r. absurd (omega arith);
    other = λ k q n l r e m s. absurd (omega arith);
  }

  pub Passed_more : (hash start k place : ℕ) → Reaches (length places) start k place → 0 < (place_at places place).1 →
      ((n : ℕ) → place_at places place ≡ (hash, n + 1) → n < length lists → get_or lists n [] ≡ items → ⊥) → Passed places lists items hash start k → Passed places lists items hash start (k + 1)
  Passed_more hash start k place r full not p = record {
    filled = Filled_more places start k place r full p.filled;
    other = λ j q n l s e m i.
        elim (cases_lt j k) [
          | inl b ↦ p.other j q n b s e m i
          | inr b ↦
              let f : j ≡ k = omega arith in
              let same : q ≡ place = Reaches_one (length places) start k q place (subst (λ i. Reaches (length places) start i q) f s) r in
              not n (subst (λ z. place_at places z ≡ (hash, n + 1)) same e) m i
        ];
  }

  hash_at : (n : ℕ) → n < length lists → get_or lists n [] ≡ items → get_or (map hash_of lists) n 0 ≡ hash_of items
  hash_at n l e = get_or-map hash_of lists n [] 0 l ∙ ap hash_of e

  found_list : IsIndex places (map hash_of lists) → (n : ℕ) → n < length lists → get_or lists n [] ≡ items → IsFoundFrom places (home (hash_of items) (length places)) (hash_of items) n
  found_list is n l e =
      subst (λ h. IsFoundFrom places (home h (length places)) h n) (hash_at n l e)
      (is.found n (let m : length (map hash_of lists) ≡ length lists = length-map lists hash_of in omega arith))

  -- a walk that has passed all places
  pub none_at_end : IsIndex places (map hash_of lists) → Passed places lists items (hash_of items) (home (hash_of items) (length places)) (length places) → (n : ℕ) → StandsAt items lists n → ⊥
  none_at_end is p n at =
      let f : IsFoundFrom places (home (hash_of items) (length places)) (hash_of items) n = found_list is n at.0 at.1 in
      p.other f.steps f.place n f.short f.reached f.names at.0 at.1

  -- or stands at an empty place
  pub none_at_empty : (k place : ℕ) → IsIndex places (map hash_of lists) → Reaches (length places) (home (hash_of items) (length places)) k place → (place_at places place).1 ≡ 0 → Passed places lists items (hash_of items) (home (hash_of items) (length places)) k → (n : ℕ) → StandsAt items lists n → ⊥
  none_at_empty k place is r empty p n at =
      let f : IsFoundFrom places (home (hash_of items) (length places)) (hash_of items) n = found_list is n at.0 at.1 in
      elim (cases_lt f.steps k) [
        | inl b ↦ p.other f.steps f.place n b f.reached f.names at.0 at.1
        | inr b ↦ elim (cases_lt k f.steps) [
          | inl m ↦ let full : 0 < (place_at places place).1 = f.filled k place m r in omega arith
          | inr m ↦
              let e : f.steps ≡ k = omega arith in
              let same : f.place ≡ place = Reaches_one (length places) (home (hash_of items) (length places)) k f.place place (subst (λ i. Reaches (length places) (home (hash_of items) (length places)) i f.place) e f.reached) r in
              let full : (place_at places f.place).1 ≡ n + 1 = ap (λ p. p.1) f.names in
              let none : (place_at places f.place).1 ≡ 0 = ap (λ i. (place_at places i).1) same ∙ empty in
              omega arith
        ]
      ]
