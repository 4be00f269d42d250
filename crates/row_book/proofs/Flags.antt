-- Rows of flags and the sets that they stand for.
use Rattle.std.proofs.Common.{◌≡◌, ℕ, zero, suc, ◌<◌, ◌+◌, ◌-◌, Bool, true, false, not, ◌&&◌, ◌||◌, ◌↔◌, List, [], ◌∷◌, ◌++◌, length, get_or, ◌⊎◌, inl, inr}
use Rattle.std.proofs.Common.{refl, ◌∙◌, sym, ap, subst, arith}
use Rattle.std.proofs.lemmas.Bool.{or_cases, or_left, or_right, and_parts, and_from, both_ways, cases_Bool, cases_lt, not-true, not_from_false}
use Rattle.std.proofs.{lemmas.Bool.{false_from_ne_true, false≢true}, lemmas.List.{append_assoc, get_or_past}}
use Rattle.std.specs.List.{list_all, list_any, zip}
use Rattle.row_book.specs.{Sets.{NumSet, Is, Hit}, Repository.{Coinst}, Flags.{flag, hits_row, is_abundant, is_peaceful, is_solution, Extends}}
use Rattle.listed.specs.Lists.{In, has}
use Rattle.listed.proofs.Lists.{In_has, has_In, In_none, any_from, any_cases, all_from, all_at}
use Rattle.row_book.proofs.Lists.{hit_any}

-- what holds of each entry whose flag is up
zip_at : {A : Type 0} (p : A → Bool) (xs : List A) (flags : List Bool) (n : ℕ) (d : A) →
    list_all (λ w. not w.1 || p w.0) (zip xs flags) ≡ true → n < length xs → flag flags n ≡ true → p (get_or xs n d) ≡ true
zip_at p [] flags n d h l y = absurd (omega arith)
zip_at p (x ∷ xs) [] n d h l y = absurd (false≢true y)
zip_at p (x ∷ xs) (b ∷ flags) zero d h l y =
    let w : ((not b || p x) ≡ true) × (list_all (λ w. not w.1 || p w.0) (zip xs flags) ≡ true) = and_parts (not b || p x) (list_all (λ w. not w.1 || p w.0) (zip xs flags)) h in
    elim (or_cases (not b) (p x) w.0) [ inl f ↦ absurd (both_ways b (not-true b f) y) | inr t ↦ t ]
zip_at p (x ∷ xs) (b ∷ flags) (suc n) d h l y =
    zip_at p xs flags n d (and_parts (not b || p x) (list_all (λ w. not w.1 || p w.0) (zip xs flags)) h).1 (omega arith) y

zip_from : {A : Type 0} (p : A → Bool) (xs : List A) (flags : List Bool) (d : A) →
    ((n : ℕ) → n < length xs → flag flags n ≡ true → p (get_or xs n d) ≡ true) → list_all (λ w. not w.1 || p w.0) (zip xs flags) ≡ true
zip_from p [] flags d f = refl
zip_from p (x ∷ xs) [] d f = refl
zip_from p (x ∷ xs) (b ∷ flags) d f =
    and_from (not b || p x) (list_all (λ w. not w.1 || p w.0) (zip xs flags))
    (elim (cases_Bool b) [
      | inl y ↦ or_right (not b) (p x) (f 0 (omega arith) y)
      | inr e ↦ or_left (not b) (p x) (not_from_false b e)
    ])
    (zip_from p xs flags d (λ n l y. f (suc n) (omega arith) y))

-- a flag that is up stands in the row
pub flag_in : (flags : List Bool) (n : ℕ) → flag flags n ≡ true → n < length flags
flag_in [] n h = absurd (false≢true h)
flag_in (b ∷ flags) zero h = omega arith
flag_in (b ∷ flags) (suc n) h = let l : n < length flags = flag_in flags n h in omega arith

-- the flags of a set, n of them from k on
flags_from : NumSet → ℕ → ℕ → List Bool
flags_from X zero k = []
flags_from X (suc n) k = X k ∷ flags_from X n (suc k)

length-flags_from : (X : NumSet) (n k : ℕ) → length (flags_from X n k) ≡ n
unfolding flags_from
length-flags_from X zero k = refl
length-flags_from X (suc n) k = ap suc (length-flags_from X n (suc k))

flag-flags_from : (X : NumSet) (n k i : ℕ) → i < n → flag (flags_from X n k) i ≡ X (k + i)
unfolding flags_from
flag-flags_from X zero k i l = absurd (omega arith)
flag-flags_from X (suc n) k zero l = ap X (omega arith)
flag-flags_from X (suc n) k (suc i) l = flag-flags_from X n (suc k) i (omega arith) ∙ ap X (omega arith)

flag_same : (X : NumSet) (n i : ℕ) → ((m : ℕ) → X m ≡ true → m < n) → flag (flags_from X n 0) i ≡ X i
flag_same X n i f =
    elim (cases_lt i n) [
      | inl l ↦ flag-flags_from X n 0 i l ∙ ap X (omega arith)
      | inr g ↦
          let down : flag (flags_from X n 0) i ≡ false = false_from_ne_true (flag (flags_from X n 0) i) (λ h.
          let a : i < length (flags_from X n 0) = flag_in (flags_from X n 0) i h in
          let e : length (flags_from X n 0) ≡ n = length-flags_from X n 0 in omega arith) in
          let out : X i ≡ false = false_from_ne_true (X i) (λ h. let a : i < n = f i h in omega arith) in
          down ∙ sym out
    ]

module _ (clauses : List (List (List ℕ))) (conflicts : List (List ℕ)) (wanted : List ℕ) where
  -- a row of flags that passes the tests is a healthy set
  coinst_from : (flags : List Bool) → length flags ≡ length clauses → is_solution clauses conflicts wanted flags ≡ true →
      Coinst (record { clauses = clauses; conflicts = conflicts }) (has wanted)
  coinst_from flags e h =
      let abundant : Bool = is_abundant clauses flags in
      let peaceful : Bool = is_peaceful conflicts flags in
      let all : Bool = list_all (flag flags) wanted in
      let parts : ((abundant && peaceful) ≡ true) × (all ≡ true) = and_parts (abundant && peaceful) all h in
      let both : (abundant ≡ true) × (peaceful ≡ true) = and_parts abundant peaceful parts.0 in
      record {
        whole = flag flags;
        healthy = record {
          packages = λ n y. let l : n < length flags = flag_in flags n y in omega arith;
          abundance = λ n y c i.
              let l : n < length flags = flag_in flags n y in
              hit_any (flag flags) c (all_at (λ c. list_any (flag flags) c) (get_or clauses n [])
              (zip_at (hits_row flags) clauses flags n [] both.0 (omega arith) y) c i);
          peace = λ m n y z. false_from_ne_true (has (get_or conflicts m []) n) (λ inside.
              elim (cases_lt m (length conflicts)) [
                | inl l ↦
                    let quiet : not (list_any (flag flags) (get_or conflicts m [])) ≡ true =
                    zip_at (λ c. not (list_any (flag flags) c)) conflicts flags m [] both.1 l y in
                    both_ways (list_any (flag flags) (get_or conflicts m [])) (not-true (list_any (flag flags) (get_or conflicts m [])) quiet)
                    (any_from (flag flags) (get_or conflicts m []) n (has_In (get_or conflicts m []) n inside) z)
                | inr g ↦ In_none (subst (λ c. In n c) (get_or_past conflicts m [] g) (has_In (get_or conflicts m []) n inside))
              ]);
        };
        contains = λ n w. all_at (flag flags) wanted parts.1 n (has_In wanted n w);
      }

  -- the flags of a healthy set pass the tests
  coinst_passes : (s : Coinst (record { clauses = clauses; conflicts = conflicts }) (has wanted)) →
      is_solution clauses conflicts wanted (flags_from s.whole (length clauses) 0) ≡ true
  coinst_passes s =
      let flags : List Bool = flags_from s.whole (length clauses) 0 in
      let up : (n : ℕ) → flag flags n ≡ true → Is s.whole n = λ n y. sym (flag_same s.whole (length clauses) n s.healthy.packages) ∙ y in
      let down : (n : ℕ) → Is s.whole n → flag flags n ≡ true = λ n y. flag_same s.whole (length clauses) n s.healthy.packages ∙ y in
      and_from (is_abundant clauses flags && is_peaceful conflicts flags) (list_all (flag flags) wanted)
      (and_from (is_abundant clauses flags) (is_peaceful conflicts flags)
      (zip_from (hits_row flags) clauses flags [] (λ n l y. all_from (λ c. list_any (flag flags) c) (get_or clauses n []) (λ c i.
      let h : Hit (Is s.whole) c = s.healthy.abundance n (up n y) c i in
      any_from (flag flags) c h.by h.inside (down h.by h.alive))))
      (zip_from (λ c. not (list_any (flag flags) c)) conflicts flags [] (λ m l y.
      not_from_false (list_any (flag flags) (get_or conflicts m [])) (false_from_ne_true (list_any (flag flags) (get_or conflicts m [])) (λ t.
      let w : (n : ℕ) × In n (get_or conflicts m []) × (flag flags n ≡ true) = any_cases (flag flags) (get_or conflicts m []) t in
      both_ways (has (get_or conflicts m []) w.0) (s.healthy.peace m w.0 (up m y) (up w.0 w.2)) (In_has w.1))))))
      (all_from (flag flags) wanted (λ n i. down n (s.contains n (In_has i))))

  pub extends_all : Extends clauses conflicts wanted [] (length clauses) ↔ Coinst (record { clauses = clauses; conflicts = conflicts }) (has wanted)
  extends_all = (
    (λ x. coinst_from x.more x.count x.solves),
    (λ s. record {
      more = flags_from s.whole (length clauses) 0;
      count = length-flags_from s.whole (length clauses) 0;
      solves = coinst_passes s;
    }),
  )

  -- the next flag is down or up
  pub extends_by : (flags : List Bool) (b : Bool) (left : ℕ) → 0 < left →
      Extends clauses conflicts wanted (flags ++ b ∷ []) (left - 1) → Extends clauses conflicts wanted flags left
  extends_by flags b left l x = record {
    more = b ∷ x.more;
    count = let e : length x.more ≡ left - 1 = x.count in omega arith;
    solves = subst (λ f. is_solution clauses conflicts wanted f ≡ true) (append_assoc flags (b ∷ []) x.more) x.solves;
  }

  pub extends_cases : (flags : List Bool) (left : ℕ) → 0 < left → Extends clauses conflicts wanted flags left →
      Extends clauses conflicts wanted (flags ++ false ∷ []) (left - 1) ⊎ Extends clauses conflicts wanted (flags ++ true ∷ []) (left - 1)
  extends_cases flags left l x = first x.more x.count x.solves
    where
      next : (b : Bool) (bs : List Bool) → suc (length bs) ≡ left → is_solution clauses conflicts wanted (flags ++ b ∷ bs) ≡ true →
          Extends clauses conflicts wanted (flags ++ b ∷ []) (left - 1)
      next b bs e h = record {
        more = bs;
        count = omega arith;
        solves = subst (λ f. is_solution clauses conflicts wanted f ≡ true) (sym (append_assoc flags (b ∷ []) bs)) h;
      }

      first : (more : List Bool) → length more ≡ left → is_solution clauses conflicts wanted (flags ++ more) ≡ true →
          Extends clauses conflicts wanted (flags ++ false ∷ []) (left - 1) ⊎ Extends clauses conflicts wanted (flags ++ true ∷ []) (left - 1)
      first [] e h = absurd (omega arith)
      first (false ∷ bs) e h = inl (next false bs e h)
      first (true ∷ bs) e h = inr (next true bs e h)

  -- neither of two tries, or the second
  pub extends_last : (flags : List Bool) (left : ℕ) (first second : Bool) → 0 < left → first ≡ false →
      (first ≡ true) ↔ Extends clauses conflicts wanted (flags ++ false ∷ []) (left - 1) →
      (second ≡ true) ↔ Extends clauses conflicts wanted (flags ++ true ∷ []) (left - 1) →
      (second ≡ true) ↔ Extends clauses conflicts wanted flags left
  extends_last flags left first second l e f s = (
    (λ y. extends_by flags true left l (s.0 y)),
    (λ x. elim (extends_cases flags left l x) [ inl a ↦ absurd (both_ways first e (f.1 a)) | inr b ↦ s.1 b ]),
  )
