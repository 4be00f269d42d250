-- What a small book tells of a mix.
use Rattle.std.proofs.Common.{◌≡◌, ℕ, ◌<◌, ◌≤◌, Bool, true, false, ◌&&◌, ◌||◌, ltb, List, [], ◌∷◌, length, map, filter, slice_index_or, None, inl, inr, refl}
use Rattle.std.proofs.Common.{sym, ◌∙◌, ap, ap₂, subst, arith, zero-le}
use Rattle.std.proofs.{lemmas.Bool.{and_from, and_parts, both_ways, cases_Bool, cases_eq, cases_lt, lt-ltb, ltb-true}, lemmas.Simd.{map-map}}
use Rattle.row_book.specs.{Parts.{chosen_in, clauses_in, number_in, numbers_up, part, place_in, row_in}, Flags.{flag}}
use Rattle.row_book.specs.{Flattening.{core_of, has_conflict, passes, remaining_after, row_length}, Numbers.{numbers}}
use Rattle.row_book.specs.{Repository.{Repository, clauses_of, conflicts_of}, Sets.{NumSet}, Sound.{OfPackages}, Support.{row}}
use Rattle.row_book.proofs.Numbered.{number_back, up_ascends, up_count}
use Rattle.row_book.proofs.Placed.{HasPlace, IsChosen, at_place, chosen_cases, count_in, place_below, place_rises}
use Rattle.row_book.proofs.Parts.{clauses_through, part_count, part_row, row_moved}
use Rattle.std.specs.List.{list_any}
use Rattle.clause_pool.specs.Clauses.{in_row_order}
use Rattle.clause_pool.proofs.Order.{ordered_parts}
use Rattle.clause_flatten.specs.Locality.{StandsIn}
use Rattle.clause_flatten.proofs.{LocalRuns.{flat_is_local_lem, flat_stays, limit_is_local_lem}, Passing.{passes_none}, Rows.{row_is}, Stages.{left_bound}}
use Rattle.listed.specs.Lists.{In, has, here}
use Rattle.listed.proofs.{Bools.{same_bool}, Lists.{In_map_cases, In_none, any_cases, any_from, filter_cases, filter_same, map_alike}}
use Rattle.suite_part.specs.{Bases.{row_of_part}, Small.{HaveRivals, IsSmall, SmallTells, TellsOfMix}}
use Rattle.suite_part.proofs.{Backs.{numbers_rise}, Standing.{part_conflict}}

-- what stands in another repository is told by the way back too
module _ (R other : Repository) (U V : NumSet) (there back : ℕ → ℕ) (stands : StandsIn R U there other)
    (own : (p : ℕ) → V p ≡ true → U (back p) ≡ true) (here : (p : ℕ) → V p ≡ true → there (back p) ≡ p)
    (its : (k : ℕ) → U k ≡ true → V (there k) ≡ true) (home : (k : ℕ) → U k ≡ true → back (there k) ≡ k) where
  row_at : (p : ℕ) → V p ≡ true → clauses_of other p ≡ map (map there) (clauses_of R (back p))
  row_at p v = ap (clauses_of other) (sym (here p v)) ∙ stands.clauses (back p) (own p v)

  clauses_same : (cs : List (List ℕ)) → map (map (λ n. n)) cs ≡ cs
  clauses_same [] = refl
  clauses_same (c ∷ cs) = ap₂ (λ x xs. x ∷ xs) (numbers_same c) (clauses_same cs)
    where
      numbers_same : (c : List ℕ) → map (λ n. n) c ≡ c
      numbers_same [] = refl
      numbers_same (n ∷ c) = ap (λ xs. n ∷ xs) (numbers_same c)

  turned : StandsIn other V back R
  turned = record {
    packages = λ p v. subst (λ z. z < length other.clauses) (here p v) (stands.within (back p) (own p v));
    closed = λ p v c i n j.
        let w : (d : List ℕ) × In d (clauses_of R (back p)) × (c ≡ map there d) = In_map_cases (map there) (clauses_of R (back p)) c (subst (λ z. In c z) (row_at p v) i) in
        let u : (m : ℕ) × In m w.0 × (n ≡ there m) = In_map_cases there w.0 n (subst (λ z. In n z) w.2 j) in
        subst (λ z. V z ≡ true) (sym u.2) (its u.0 (stands.closed (back p) (own p v) w.0 w.1 u.0 u.1));
    within = λ p v. stands.packages (back p) (own p v);
    rising = λ m n u v l. elim (cases_lt (back m) (back n)) [
      | inl less ↦ less
      | inr more ↦ elim (cases_eq (back m) (back n)) [
        | inl same ↦ (let e : m ≡ n = sym (here m u) ∙ ap there same ∙ here n v in absurd (omega (arith, e, l)))
        | inr other_one ↦
            let below : back n < back m = omega (arith, more, other_one) in
            let r : there (back n) < there (back m) = stands.rising (back n) (back m) (own n v) (own m u) below in
            let a : there (back n) ≡ n = here n v in
            let b : there (back m) ≡ m = here m u in
            absurd (omega (arith, a, b, r, l))
      ]
    ];
    clauses = λ p v.
        sym (clauses_same (clauses_of R (back p)))
        ∙ sym (clauses_through back there (λ n. n) (clauses_of R (back p)) (λ c i n j. home n (stands.closed (back p) (own p v) c i n j)))
        ∙ ap (map (map back)) (sym (row_at p v));
    conflicts = λ p v. sym (stands.conflicts (back p) (own p v)) ∙ ap (has_conflict other) (here p v);
  }

-- a package without clauses has an empty row
none_inside : {A : Type 0} (xs : List A) → ((x : A) → In x xs → ⊥) → xs ≡ []
none_inside [] f = refl
none_inside (x ∷ xs) f = absurd (f x here)

empty_row : (R : Repository) (V : NumSet) (p : ℕ) → OfPackages R V → clauses_of R p ≡ [] → row R V p ≡ []
empty_row R V p bound e = none_inside (row R V p) (λ T i. ((row_is R V p bound).sound T i).blocks.fails (record {
  helpers = λ n. false;
  packages = λ n h. absurd (both_ways false refl h);
  outside = λ n h. absurd (both_ways false refl h);
  own = λ c j. absurd (In_none (subst (λ cs. In c cs) e j));
  others = λ n h. absurd (both_ways false refl h);
}))

-- conflicts are asked of the lists alone
conflict_same : (R S : Repository) (q : ℕ) → length R.clauses ≡ length S.clauses → R.conflicts ≡ S.conflicts → has_conflict R q ≡ has_conflict S q
conflict_same R S q e f = ap₂ (λ n t. list_any (λ m. has (slice_index_or t q []) m || has (slice_index_or t m []) q) (numbers n 0)) e f

module _ (W : Repository) (flags needed apart : List Bool) (S : Repository) (a : HaveRivals W flags needed apart) (small : IsSmall W needed apart S) where
  abbrev P : Repository
  P = part flags W

  abbrev number : ℕ → ℕ
  number = number_in (numbers_up apart)

  abbrev there : ℕ → ℕ
  there k = place_in flags (number k)

  abbrev ours : NumSet
  ours k = ltb k (count_in apart) && flag needed (number k)

  small_count : length S.clauses ≡ count_in apart
  small_count = small.count ∙ part_count W a.whole apart a.count

  record Ours (k : ℕ) : Type 0 where
    pub member : ℕ
    pub needs : flag needed member ≡ true
    pub up : flag apart member ≡ true
    pub chosen : flag flags member ≡ true
    pub place : place_in apart member ≡ k
    pub is : number k ≡ member

  ours_parts : (k : ℕ) → ours k ≡ true → Ours k
  ours_parts k u =
      let w : (ltb k (count_in apart) ≡ true) × (flag needed (number k) ≡ true) = and_parts (ltb k (count_in apart)) (flag needed (number k)) u in
      let h : HasPlace apart k = at_place apart k (ltb-true k (count_in apart) w.0) in
      let is : number k ≡ h.number = ap number (sym h.is) ∙ number_back apart h.number h.up in
      record { member = h.number; needs = subst (λ z. flag needed z ≡ true) is w.1; up = h.up; chosen = a.mix h.number h.up; place = h.is; is = is }

  ours_from : (x : ℕ) → flag needed x ≡ true → ours (place_in apart x) ≡ true
  ours_from x u =
      let up : flag apart x ≡ true = a.own x u in
      and_from (ltb (place_in apart x) (count_in apart)) (flag needed (number (place_in apart x))) (lt-ltb (place_in apart x) (count_in apart) (place_below apart x up))
      (ap (flag needed) (number_back apart x up) ∙ u)

  below : (k : ℕ) → ours k ≡ true → k < count_in apart
  below k u = let o : Ours k = ours_parts k u in subst (λ z. z < count_in apart) o.place (place_below apart o.member o.up)

  there_own : (x : ℕ) → flag apart x ≡ true → there (place_in apart x) ≡ place_in flags x
  there_own x up = ap (place_in flags) (number_back apart x up)

  number_chosen : (k : ℕ) → ours k ≡ true → flag flags (number k) ≡ true
  number_chosen k u = let o : Ours k = ours_parts k u in subst (λ z. flag flags z ≡ true) (sym o.is) o.chosen

  there_rises : (m n : ℕ) → ours m ≡ true → ours n ≡ true → m < n → there m < there n
  there_rises m n u v l = place_rises flags (number m) (number n) (number_chosen m u) (numbers_rise (numbers_up apart) (up_ascends apart) m n l (subst (λ z. n < z) (sym (up_count apart)) (below n v)))

  -- the same is left of a clause of a needed package in both
  clause_left : (x : ℕ) → flag needed x ≡ true → (c : List ℕ) → In c (clauses_of W x) → chosen_in flags c ≡ map there (chosen_in apart c)
  clause_left x u c i =
      ap (map (place_in flags)) (filter_same (flag flags) (flag apart) c (λ n j. same_bool (flag flags n) (flag apart n) (λ up. a.own n (a.closed x u c i n j up)) (λ up. a.mix n up)))
      ∙ sym (map-map there (place_in apart) (filter (flag apart) c) ∙ map_alike (λ n. there (place_in apart n)) (place_in flags) (filter (flag apart) c) (λ n j. there_own n (filter_cases (flag apart) c n j).1))

  left_ours : (x : ℕ) → flag needed x ≡ true → (c : List ℕ) → In c (map (chosen_in apart) (clauses_of W x)) → (n : ℕ) → In n c → ours n ≡ true
  left_ours x u c i n j =
      let w : (d : List ℕ) × In d (clauses_of W x) × (c ≡ chosen_in apart d) = In_map_cases (chosen_in apart) (clauses_of W x) c i in
      let v : IsChosen apart w.0 n = chosen_cases apart w.0 n (subst (λ z. In n z) w.2 j) in
      subst (λ z. ours z ≡ true) (sym v.is) (ours_from v.number (a.closed x u w.0 w.1 v.number v.listed (a.mix v.number v.up)))

  own_row : (k : ℕ) (o : Ours k) → clauses_of S k ≡ row_in apart (clauses_of W o.member)
  own_row k o = ap (clauses_of S) (sym o.place) ∙ small.rows o.member o.needs

  there_row : (k : ℕ) (o : Ours k) → clauses_of P (there k) ≡ row_in flags (clauses_of W o.member)
  there_row k o = ap (λ x. clauses_of P (place_in flags x)) o.is ∙ part_row W a.whole flags a.size o.member o.chosen

  row_there : (k : ℕ) → Ours k → clauses_of P (there k) ≡ map (map there) (clauses_of S k)
  row_there k o =
      let cs : List (List ℕ) = clauses_of W o.member in
      there_row k o
      ∙ ap in_row_order (map_alike (chosen_in flags) (λ c. map there (chosen_in apart c)) cs (clause_left o.member o.needs) ∙ sym (map-map (map there) (chosen_in apart) cs))
      ∙ sym (row_moved ours there there_rises (map (chosen_in apart) cs) (left_ours o.member o.needs))
      ∙ ap (map (map there)) (sym (own_row k o))

  conflict_there : (k : ℕ) → Ours k → has_conflict P (there k) ≡ has_conflict S k
  conflict_there k o =
      let x : ℕ = o.member in
      ap (λ z. has_conflict P (place_in flags z)) o.is ∙ part_conflict W a.whole flags a.size x o.chosen
      ∙ same_bool (list_any (flag flags) (conflicts_of W x)) (list_any (flag apart) (conflicts_of W x))
      (λ h. let w : (m : ℕ) × In m (conflicts_of W x) × (flag flags m ≡ true) = any_cases (flag flags) (conflicts_of W x) h in a.rivals x w.0 o.needs w.1 w.2)
      (λ h. let w : (m : ℕ) × In m (conflicts_of W x) × (flag apart m ≡ true) = any_cases (flag apart) (conflicts_of W x) h in any_from (flag flags) (conflicts_of W x) w.0 w.1 (a.mix w.0 w.2))
      ∙ sym (part_conflict W a.whole apart a.count x o.up) ∙ ap (has_conflict (part apart W)) o.place ∙ sym (conflict_same S (part apart W) k small.count small.conflicts)

  stands : StandsIn S ours there P
  stands = record {
    packages = λ k u. subst (λ z. k < z) (sym small_count) (below k u);
    closed = λ k u c i.
        let o : Ours k = ours_parts k u in
        left_ours o.member o.needs c (ordered_parts (map (chosen_in apart) (clauses_of W o.member)) c (subst (λ z. In c z) (own_row k o) i));
    within = λ k u. subst (λ z. there k < z) (sym (part_count W a.whole flags a.size)) (place_below flags (number k) (number_chosen k u));
    rising = there_rises;
    clauses = λ k u. row_there k (ours_parts k u);
    conflicts = λ k u. conflict_there k (ours_parts k u);
  }

  -- and back
  abbrev place_of : ℕ → ℕ
  place_of = number_in (numbers_up flags)

  abbrev back : ℕ → ℕ
  back p = place_in apart (place_of p)

  abbrev its : NumSet
  its p = ltb p (count_in flags) && flag needed (place_of p)

  record Its (p : ℕ) : Type 0 where
    pub member : ℕ
    pub needs : flag needed member ≡ true
    pub place : place_in flags member ≡ p
    pub is : place_of p ≡ member

  its_parts : (p : ℕ) → its p ≡ true → Its p
  its_parts p v =
      let w : (ltb p (count_in flags) ≡ true) × (flag needed (place_of p) ≡ true) = and_parts (ltb p (count_in flags)) (flag needed (place_of p)) v in
      let h : HasPlace flags p = at_place flags p (ltb-true p (count_in flags) w.0) in
      let is : place_of p ≡ h.number = ap place_of (sym h.is) ∙ number_back flags h.number h.up in
      record { member = h.number; needs = subst (λ z. flag needed z ≡ true) is w.1; place = h.is; is = is }

  its_from : (x : ℕ) → flag needed x ≡ true → its (place_in flags x) ≡ true
  its_from x u =
      let up : flag flags x ≡ true = a.mix x (a.own x u) in
      and_from (ltb (place_in flags x) (count_in flags)) (flag needed (place_of (place_in flags x))) (lt-ltb (place_in flags x) (count_in flags) (place_below flags x up))
      (ap (flag needed) (number_back flags x up) ∙ u)

  back_own : (x : ℕ) → flag needed x ≡ true → back (place_in flags x) ≡ place_in apart x
  back_own x u = ap (place_in apart) (number_back flags x (a.mix x (a.own x u)))

  stands_back : StandsIn P its back S
  stands_back = turned S P ours its there back stands
      (λ p v. let o : Its p = its_parts p v in subst (λ z. ours (place_in apart z) ≡ true) (sym o.is) (ours_from o.member o.needs))
      (λ p v. let o : Its p = its_parts p v in ap (λ z. there (place_in apart z)) o.is ∙ there_own o.member (a.own o.member o.needs) ∙ o.place)
      (λ k u. let o : Ours k = ours_parts k u in subst (λ z. its (place_in flags z) ≡ true) (sym o.is) (its_from o.member o.needs))
      (λ k u. let o : Ours k = ours_parts k u in ap (λ z. back (place_in flags z)) o.is ∙ back_own o.member o.needs ∙ o.place)

  module _ (limit : ℕ) where
    abbrev own_rows : ℕ → List (List ℕ)
    own_rows x = row S (core_of limit false S) (place_in apart x)

    row_home : (x : ℕ) → flag needed x ≡ true → clauses_in (numbers_up apart) (own_rows x) ≡ row_of_part limit flags W x
    row_home x u =
        sym (ap (clauses_in (numbers_up flags))
        (ap (row P (core_of limit false P)) (sym (there_own x (a.own x u))) ∙ flat_is_local_lem limit S ours there P stands (place_in apart x) (ours_from x u))
        ∙ clauses_through place_of there number (own_rows x)
        (λ c i n j. number_back flags (number n) (number_chosen n (flat_stays limit S ours there P stands (place_in apart x) (ours_from x u) c i n j))))

    within_home : passes limit false S ≡ None → (x : ℕ) → flag needed x ≡ true → (i : ℕ) → row_length P (remaining_after limit false P i).left (place_in flags x) ≤ limit
    within_home none x u i =
        subst (λ z. row_length P (remaining_after limit false P i).left z ≤ limit) (there_own x (a.own x u)) (limit_is_local_lem limit S ours there P stands none i (place_in apart x) (ours_from x u))

    none_there : passes limit false P ≡ None → passes limit false S ≡ None
    none_there none = passes_none S limit false (λ j m p l.
        let h : HasPlace apart p = at_place apart p (subst (λ z. p < z) small_count l) in
        elim (cases_Bool (flag needed h.number)) [
          | inl u ↦ subst (λ z. row_length S (remaining_after limit false S j).left z ≤ limit) (back_own h.number u ∙ h.is)
              (limit_is_local_lem limit P its back S stands_back none j (place_in flags h.number) (its_from h.number u))
          | inr f ↦ subst (λ cs. length cs ≤ limit)
              (sym (empty_row S (remaining_after limit false S j).left p (left_bound limit false S j) (ap (clauses_of S) (sym h.is) ∙ small.none h.number h.up f))) zero-le
        ])

    tells : TellsOfMix limit W flags needed apart S
    tells = record { rows = row_home; passes_not = none_there; within = within_home }

pub small_tells_lem : SmallTells
small_tells_lem limit W flags needed apart S a small = tells W flags needed apart S a small limit
