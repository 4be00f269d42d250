-- Elimination among packages that name none but each other: the stages with others follow those without.
use Rattle.std.proofs.Common.{◌≡◌, ◌≢◌, ℕ, zero, suc, ◌<◌, ◌≤◌, ◌+◌, ◌-◌, Bool, true, false, ◌&&◌, eqb, ltb, List, ◌∷◌, length, ◌⊎◌, inl, inr, refl, sym, ◌∙◌}
use Rattle.std.proofs.Common.{ap, subst, arith, map, Option, Some, None, zero-le, eq-eqb, eqb-true}
use Rattle.std.proofs.lemmas.Bool.{and_from, and_parts, both_ways, cases_Bool, cases_order, lt-ltb, ltb-false}
use Rattle.std.specs.{List.{find, list_any}, Option.{option_map}}
use Rattle.listed.specs.Lists.{In}
use Rattle.listed.proofs.{Bools.{same_bool}, Lists.{any_cases, any_none, find_none}}
use Rattle.row_book.specs.{Sets.{NumSet, without}, Repository.{Repository}, Numbers.{numbers}, Sound.{OfPackages}, Support.{row}}
use Rattle.row_book.specs.Flattening.{Passed, core_of, first_some, has_conflict, next_gone, packages, passed_at, passes, remaining_after, row_length}
use Rattle.row_book.proofs.{Numbers.{numbers_from}, Sets.{without_from, without_parts}}
use Rattle.clause_flatten.specs.{FlatLaws.{LeastToGo, left_after, less_one, none_held}, Locality.{FlatIsLocal, LimitIsLocal, StandsIn}}
use Rattle.clause_flatten.proofs.{Flat.{next_is_least_lem}, Stages.{core_stays_lem, left_bound, without_hold_lem}, Rows.{row_is}}
use Rattle.clause_flatten.proofs.LocalRows.{length_is_local, minimal_ours, row_is_local, to_one}

-- without hold a package of the core has a conflict
core_conflicts : (limit : ℕ) (R : Repository) (q : ℕ) → core_of limit false R q ≡ true → has_conflict R q ≡ true
core_conflicts limit R q c =
    elim ((core_stays_lem limit false R q).0 c).1 [
      | inl k ↦ k
      | inr k ↦ absurd (both_ways false refl (sym (ap (λ s. s.held q) (without_hold_lem limit R (length R.clauses))) ∙ k))
    ]

-- what is left after so many steps, and at last
left_is : (R : Repository) (i n : ℕ) → (remaining_after 0 false R i).left n ≡ left_after R i n
left_is R i n = ap (λ s. s.left n) (without_hold_lem 0 R i)

bound_after : (R : Repository) (i : ℕ) → OfPackages R (left_after R i)
bound_after R i n h = left_bound 0 false R i n (left_is R i n ∙ h)

none_at_end : (R : Repository) (q : ℕ) → left_after R (length R.clauses) q ≡ true → has_conflict R q ≡ false → ⊥
none_at_end R q h f = both_ways (has_conflict R q) f (core_conflicts 0 R q (left_is R (length R.clauses) q ∙ h))

left_step : (R : Repository) (i : ℕ) (o : Option ℕ) → next_gone R (none_held (left_after R i)) ≡ o → left_after R (suc i) ≡ less_one (left_after R i) o
unfolding left_after
left_step R i o e = ap (less_one (left_after R i)) e

left_first : (R : Repository) (n : ℕ) → n < length R.clauses → left_after R 0 n ≡ true
unfolding left_after
left_first R n l = lt-ltb n (length R.clauses) l

-- the others stay
without_other : (X : NumSet) (q n : ℕ) → n ≢ q → without X q n ≡ X n
without_other X q n ne = same_bool (without X q n) (X n) (λ h. (without_parts X q n h).0) (λ h. without_from X q n h ne)

-- where the limit is passed nowhere, each stage is within it
none_of_some : {A : Type 0} (f : ℕ → Option A) (n k j : ℕ) → j < n → first_some (map f (numbers n k)) ≡ None → f (k + j) ≡ None
unfolding numbers
none_of_some {A} f zero k j l e = absurd (omega arith)
none_of_some {A} f (suc n) k j l e = pick (f k) refl e j l (λ i m h. none_of_some f n (suc k) i m h)
  where
    pick : (o : Option A) → f k ≡ o → first_some (o ∷ map f (numbers n (suc k))) ≡ None → (j : ℕ) → j < suc n →
        ((i : ℕ) → i < n → first_some (map f (numbers n (suc k))) ≡ None → f (suc k + i) ≡ None) → f (k + j) ≡ None
    pick None h e zero l g = ap f (let s : k + 0 ≡ k = omega arith in s) ∙ h
    pick None h e (suc i) l g = ap f (let s : k + suc i ≡ suc k + i = omega arith in s) ∙ g i (omega arith) e
    pick (Some x) h e j l g = absurd (let s : ⊥ = cc in s)

none_over : (count : ℕ → ℕ) (i : ℕ) (o : Option ℕ) → option_map {U = Passed} (λ p. record { gone = i; over = p; count = count p }) o ≡ None → o ≡ None
none_over count i None h = refl
none_over count i (Some q) h = absurd (let f : ⊥ = cc in f)

within_after : (limit : ℕ) (R : Repository) → passes limit false R ≡ None → (j p : ℕ) → j ≤ length R.clauses → p < length R.clauses →
    row_length R (left_after R j) p ≤ limit
unfolding passes
within_after limit R e j p l m =
    let V : NumSet = (remaining_after limit false R j).left in
    let none : passed_at limit false R j ≡ None =
    ap (passed_at limit false R) (let s : j ≡ 0 + j = omega arith in s) ∙ none_of_some (passed_at limit false R) (suc (length R.clauses)) 0 j (omega arith) e in
    let small : row_length R (remaining_after limit false R j).left p ≤ limit =
    ltb-false limit (row_length R V p)
    (find_none (λ p. ltb limit (row_length R V p)) (packages R) (none_over (row_length R V) j (find (λ p. ltb limit (row_length R V p)) (packages R)) none) p
    (numbers_from (length R.clauses) 0 p zero-le (omega arith))) in
    subst (λ s. row_length R s.left p ≤ limit) (without_hold_lem limit R j) small

-- two sets that are the same on U
abbrev Agree : NumSet → (ℕ → ℕ) → NumSet → NumSet → Type 0
Agree U there W V = (n : ℕ) → U n ≡ true → W (there n) ≡ V n

module _ (R : Repository) (U : NumSet) (there : ℕ → ℕ) (other : Repository) (stands : StandsIn R U there other) where
  -- a package of U is taken out of both, or one outside U out of one of them
  both_less : (W V : NumSet) → Agree U there W V → (p : ℕ) → U p ≡ true → Agree U there (without W (there p)) (without V p)
  both_less W V a p u n v =
      same_bool (without W (there p) (there n)) (without V p n)
      (λ h. let w : (W (there n) ≡ true) × (there n ≢ there p) = without_parts W (there p) (there n) h in
      without_from V p n (sym (a n v) ∙ w.0) (λ e. w.1 (ap there e)))
      (λ h. let w : (V n ≡ true) × (n ≢ p) = without_parts V p n h in
      without_from W (there p) (there n) (a n v ∙ w.0) (λ e. w.1 (to_one R U there other stands n p v u e)))

  other_less : (W V : NumSet) → Agree U there W V → (q : ℕ) → ((n : ℕ) → U n ≡ true → there n ≡ q → ⊥) → Agree U there (without W q) V
  other_less W V a q f n v = without_other W q (there n) (f n v) ∙ a n v

  own_less : (W V : NumSet) → Agree U there W V → (r : ℕ) → U r ≡ false → Agree U there W (without V r)
  own_less W V a r f n v = a n v ∙ sym (without_other V r n (λ e. both_ways (U r) f (subst (λ z. U z ≡ true) e v)))

  -- where both take out a package of U, it is the same one
  same_gone : (W V : NumSet) → OfPackages other W → OfPackages R V → Agree U there W V → (p r : ℕ) → U p ≡ true → U r ≡ true →
      next_gone other (none_held W) ≡ Some (there p) → next_gone R (none_held V) ≡ Some r → r ≡ p
  same_gone W V bw bv a p r u v g h =
      let lo : LeastToGo other (none_held W) (there p) = ((next_is_least_lem other (none_held W) bw).some (there p)).0 g in
      let lr : LeastToGo R (none_held V) r = ((next_is_least_lem R (none_held V) bv).some r).0 h in
      let ep : row_length other W (there p) ≡ row_length R V p = length_is_local R U there other stands V W bv bw a p u in
      let er : row_length other W (there r) ≡ row_length R V r = length_is_local R U there other stands V W bv bw a r v in
      let x : (row_length other W (there p) < row_length other W (there r)) ⊎ ((row_length other W (there p) ≡ row_length other W (there r)) × (there p ≤ there r)) =
      lo.least (there r) (a r v ∙ lr.left) (stands.conflicts r v ∙ lr.free) refl in
      let y : (row_length R V r < row_length R V p) ⊎ ((row_length R V r ≡ row_length R V p) × (r ≤ p)) =
      lr.least p (sym (a p u) ∙ lo.left) (sym (stands.conflicts p u) ∙ lo.free) refl in
      elim x [
        | inl l ↦ elim y [ inl m ↦ absurd (omega arith) | inr w ↦ let e : row_length R V r ≡ row_length R V p = w.0 in absurd (omega arith) ]
        | inr z ↦ let d : row_length other W (there p) ≡ row_length other W (there r) = z.0 in let k : there p ≤ there r = z.1 in elim y [
          | inl m ↦ absurd (omega arith)
          | inr w ↦ elim (cases_order r p) [
            | inl s ↦ s
            | inr (inl l) ↦ let t : there r < there p = stands.rising r p v u l in absurd (omega arith)
            | inr (inr l) ↦ let t : r ≤ p = w.1 in absurd (omega arith)
          ]
        ]
      ]

  -- a stage that is the same on U
  record Follows (W : NumSet) : Type 0 where
    stage : ℕ
    early : stage ≤ length R.clauses
    agrees : Agree U there W (left_after R stage)

  -- where one of U is taken out with the others it may go without them, and one step there takes out it or one outside U
  record GoesOn (j : ℕ) (W : NumSet) (p : ℕ) : Type 0 where
    left : left_after R j p ≡ true
    free : has_conflict R p ≡ false
    next : Agree U there W (left_after R (suc j)) ⊎ Agree U there (without W (there p)) (left_after R (suc j))

  goes_on : (j : ℕ) (W : NumSet) → OfPackages other W → Agree U there W (left_after R j) → (p : ℕ) → U p ≡ true → next_gone other (none_held W) ≡ Some (there p) → GoesOn j W p
  goes_on j W bound same p u g = record { left = is_left; free = is_free; next = go (next_gone R (none_held V)) refl }
    where
      V : NumSet
      V = left_after R j

      taken : LeastToGo other (none_held W) (there p)
      taken = ((next_is_least_lem other (none_held W) bound).some (there p)).0 g

      is_left : left_after R j p ≡ true
      is_left = sym (same p u) ∙ taken.left

      is_free : has_conflict R p ≡ false
      is_free = sym (stands.conflicts p u) ∙ taken.free

      go : (o : Option ℕ) → next_gone R (none_held (left_after R j)) ≡ o → Agree U there W (left_after R (suc j)) ⊎ Agree U there (without W (there p)) (left_after R (suc j))
      go None h =
          elim ((next_is_least_lem R (none_held V) (bound_after R j)).none.0 h p is_left) [
            | inl c ↦ absurd (both_ways (has_conflict R p) is_free c)
            | inr c ↦ absurd (both_ways false refl c)
          ]
      go (Some r) h =
          elim (cases_Bool (U r)) [
            | inl v ↦ inr (subst (λ Y. Agree U there (without W (there p)) Y)
                (sym (left_step R j (Some r) h ∙ ap (without V) (same_gone W V bound (bound_after R j) same p r u v g h))) (both_less W V same p u))
            | inr f ↦ inl (subst (λ Y. Agree U there W Y) (sym (left_step R j (Some r) h)) (own_less W V same r f))
          ]

  -- so it is taken out there too, after some that are outside U
  catches_up : (m j : ℕ) → j + m ≡ length R.clauses → (W : NumSet) → OfPackages other W → Agree U there W (left_after R j) →
      (p : ℕ) → U p ≡ true → next_gone other (none_held W) ≡ Some (there p) → Follows (without W (there p))
  catches_up zero j e W bound same p u g =
      let w : GoesOn j W p = goes_on j W bound same p u g in
      absurd (none_at_end R p (subst (λ i. left_after R i p ≡ true) (let s : j ≡ length R.clauses = omega (arith, e) in s) w.left) w.free)
  catches_up (suc m) j e W bound same p u g =
      elim (goes_on j W bound same p u g).next [
        | inl b ↦ catches_up m (suc j) (omega (arith, e)) W bound b p u g
        | inr b ↦ record { stage = suc j; early = omega (arith, e); agrees = b }
      ]

  -- a step with the others
  follows_step : (i : ℕ) → Follows (left_after other i) → Follows (left_after other (suc i))
  follows_step i f = go (next_gone other (none_held W)) refl
    where
      W : NumSet
      W = left_after other i

      is_it : ℕ → ℕ → Bool
      is_it q n = U n && eqb (there n) q

      go : (o : Option ℕ) → next_gone other (none_held (left_after other i)) ≡ o → Follows (left_after other (suc i))
      go None h = subst Follows (sym (left_step other i None h)) f
      go (Some q) h =
          subst Follows (sym (left_step other i (Some q) h)) (elim (cases_Bool (list_any (is_it q) (packages R))) [
            | inl t ↦
                let w : (n : ℕ) × In n (packages R) × (is_it q n ≡ true) = any_cases (is_it q) (packages R) t in
                let b : (U w.0 ≡ true) × (eqb (there w.0) q ≡ true) = and_parts (U w.0) (eqb (there w.0) q) w.2 in
                let e : there w.0 ≡ q = eqb-true (there w.0) q b.1 in
                subst (λ z. Follows (without W z)) e
                (catches_up (length R.clauses - f.stage) f.stage (let l : f.stage ≤ length R.clauses = f.early in omega arith) W (bound_after other i) f.agrees w.0 b.0
                (h ∙ ap (λ z. Some z) (sym e)))
            | inr g ↦ record {
              stage = f.stage;
              early = f.early;
              agrees = other_less W (left_after R f.stage) f.agrees q (λ n v e.
                  let l : n < length R.clauses = stands.packages n v in
                  both_ways (is_it q n) (any_none (is_it q) (packages R) g n (numbers_from (length R.clauses) 0 n zero-le (omega arith)))
                  (and_from (U n) (eqb (there n) q) v (eq-eqb (there n) q e)));
            }
          ])

  follows : (i : ℕ) → Follows (left_after other i)
  follows zero = record {
    stage = 0;
    early = zero-le;
    agrees = λ n v. left_first other (there n) (stands.within n v) ∙ sym (left_first R n (stands.packages n v));
  }
  follows (suc i) = follows_step i (follows i)

  core_agrees : (limit : ℕ) → Agree U there (core_of limit false other) (core_of limit false R)
  core_agrees limit n u =
      same_bool (core_of limit false other (there n)) (core_of limit false R n)
      (λ h. (core_stays_lem limit false R n).1 (stands.packages n u, inl (sym (stands.conflicts n u) ∙ core_conflicts limit other (there n) h)))
      (λ h. (core_stays_lem limit false other (there n)).1 (stands.within n u, inl (stands.conflicts n u ∙ core_conflicts limit R n h)))

pub flat_is_local_lem : FlatIsLocal
flat_is_local_lem limit R U there other stands p u =
    row_is_local R U there other stands (core_of limit false R) (core_of limit false other) (left_bound limit false R (length R.clauses)) (left_bound limit false other (length other.clauses))
    (core_agrees R U there other stands limit) p u

-- and have members among them alone
pub flat_stays : (limit : ℕ) (R : Repository) (U : NumSet) (there : ℕ → ℕ) (other : Repository) → StandsIn R U there other →
    (p : ℕ) → U p ≡ true → (c : List ℕ) → In c (row R (core_of limit false R) p) → (n : ℕ) → In n c → U n ≡ true
flat_stays limit R U there other stands p u c i =
    minimal_ours R U there other stands (core_of limit false R) (core_of limit false other) (core_agrees R U there other stands limit) p c u
    ((row_is R (core_of limit false R) p (left_bound limit false R (length R.clauses))).sound c i)

pub limit_is_local_lem : LimitIsLocal
limit_is_local_lem limit R U there other stands none i p u =
    let f : Follows R U there other stands (left_after other i) = follows R U there other stands i in
    let small : row_length R (left_after R f.stage) p ≤ limit = within_after limit R none f.stage p f.early (stands.packages p u) in
    let e : row_length other (left_after other i) (there p) ≡ row_length R (left_after R f.stage) p =
    length_is_local R U there other stands (left_after R f.stage) (left_after other i) (bound_after R f.stage) (bound_after other i) f.agrees p u in
    subst (λ s. row_length other s.left (there p) ≤ limit) (sym (without_hold_lem limit other i)) (omega arith)
