-- A row in which unions stand for the clauses that hold a package.
use Rattle.std.proofs.Common.{◌≡◌, ℕ, ◌<◌, ◌+◌, true, false, not, ◌&&◌, ◌||◌, List, [], ◌∷◌, ◌++◌, ◌⊎◌, inl, inr, refl, sym, ◌∙◌, ap, subst, length, take}
use Rattle.std.proofs.{Common.{filter}, lemmas.Bool.{and_from, and_parts, both_ways, false_from_ne_true, not-true, not_from_false}}
use Rattle.std.specs.List.{list_all}
use Rattle.clause_pool.proofs.{Interned.{clauses_kept}, Clauses.{apart_cases, minimal_of_from, minimal_of_parts}}
use Rattle.clause_pool.proofs.Order.{order_filter, order_same, ordered_has, ordered_order, ordered_parts}
use Rattle.clause_pool.specs.{Interned.{Interned, IsIdOf, IsPool, Kept, OfPool, clause_at, clauses_at}, Lists.{InOrder}}
use Rattle.clause_pool.specs.Clauses.{apart_from, minimal_of, in_row_order}
use Rattle.listed.specs.Lists.{In, has, here, Ascending, Inside, is_inside}
use Rattle.listed.proofs.Lists.{In_append_cases, In_append_left, In_append_right, In_cases, In_map, In_map_cases, In_none, filter_cases, filter_from, has_not}
use Rattle.listed.proofs.Orders.{ascending_same}
use Rattle.clause_families.specs.{Inclusion.{has_shorter, stays}, Families.{HasGained, HasUnions, IsNeedless, IsShortest, SameClauses, all_unions}}
use Rattle.clause_families.proofs.{Families.{At, not_shorter, some_shorter, taken_at}, Rewritten.{ids_ascend, unions_apart, unions_up}}

-- no union was looked at yet
pub unions_none : (old kept unions : List (List ℕ)) → InOrder old → HasUnions old kept unions (take 0 unions) old
unions_none old kept unions o = record {
  order = o;
  stay = λ c i. i;
  put = λ c i. absurd (In_none (subst (λ z. In c z) (take_none unions) i));
  back = λ c i. inl i;
}
  where
    take_none : (xs : List (List ℕ)) → take 0 xs ≡ []
    take_none [] = refl
    take_none (x ∷ xs) = refl

module _ (old kept unions : List (List ℕ)) (i : ℕ) (clause : List ℕ) (at : At unions i clause) where
  next_cases : (c : List ℕ) → In c (take (i + 1) unions) → In c (take i unions) ⊎ (c ≡ clause)
  next_cases c j =
      elim (In_append_cases (take i unions) (clause ∷ []) c (subst (λ z. In c z) (taken_at unions i clause at) j)) [
        | inl a ↦ inl a
        | inr b ↦ elim (In_cases b) [ inl e ↦ inr e | inr n ↦ absurd (In_none n) ]
      ]

  next_in : (c : List ℕ) → In c (take i unions) ⊎ (c ≡ clause) → In c (take (i + 1) unions)
  next_in c s = subst (λ z. In c z) (sym (taken_at unions i clause at)) (elim s [
    | inl a ↦ In_append_left (take i unions) (clause ∷ []) c a
    | inr e ↦ In_append_right (take i unions) (clause ∷ []) c (subst (λ z. In c (z ∷ [])) e here)
  ])

  -- a union that is not needed is left out
  pub unions_less : (new : List (List ℕ)) → IsNeedless kept unions clause
      → HasUnions old kept unions (take i unions) new → HasUnions old kept unions (take (i + 1) unions) new
  unions_less new h u = record {
    order = u.order;
    stay = u.stay;
    put = λ c j. elim (next_cases c j) [
      | inl a ↦ u.put c a
      | inr e ↦ inr (subst (λ z. IsNeedless kept unions z) (sym e) h)
    ];
    back = λ c j. elim (u.back c j) [ inl a ↦ inl a | inr b ↦ inr (next_in c (inl b.0), b.1) ];
  }

  -- and the others are put in
  pub unions_more : (pool next : Interned) (ids more : List ℕ) (id : ℕ) → OfPool pool ids → Kept pool next → IsIdOf next.clauses clause id
      → HasGained ids more id → InOrder (clauses_at next more) → IsShortest kept unions clause
      → HasUnions old kept unions (take i unions) (clauses_at pool ids) → HasUnions old kept unions (take (i + 1) unions) (clauses_at next more)
  unions_more pool next ids more id of_pool k there_is g order h u =
      let same : clauses_at next ids ≡ clauses_at pool ids = clauses_kept pool next k ids of_pool in
      let grown : (c : List ℕ) → In c (clauses_at pool ids) → In c (clauses_at next more) = λ c j.
      let w : (x : ℕ) × In x ids × (c ≡ clause_at next x) = In_map_cases (clause_at next) ids c (subst (λ z. In c z) (sym same) j) in
      subst (λ z. In z (clauses_at next more)) (sym w.2) (In_map (clause_at next) more w.0 (g.stay w.0 w.1)) in
      record {
        order = order;
        stay = λ c j. grown c (u.stay c j);
        put = λ c j. elim (next_cases c j) [
          | inl o ↦ elim (u.put c o) [ inl p ↦ inl (grown c p) | inr n ↦ inr n ]
          | inr e ↦ inl (subst (λ z. In z (clauses_at next more)) (there_is.holds ∙ sym e) (In_map (clause_at next) more id g.one))
        ];
        back = λ c j.
            let w : (x : ℕ) × In x more × (c ≡ clause_at next x) = In_map_cases (clause_at next) more c j in
            elim (g.back w.0 w.1) [
              | inl o ↦ elim (u.back c (subst (λ z. In c z) same (subst (λ z. In z (clauses_at next ids)) (sym w.2) (In_map (clause_at next) ids w.0 o)))) [
                | inl p ↦ inl p
                | inr p ↦ inr (next_in c (inl p.0), p.1)
              ]
              | inr e ↦
                  let is : c ≡ clause = w.2 ∙ ap (clause_at next) e ∙ there_is.holds in
                  inr (next_in c (inr is), subst (λ z. IsShortest kept unions z) (sym is) h)
            ];
      }

pub gained_of_pool : (pool : Interned) (ids more : List ℕ) (id : ℕ) → OfPool pool ids → id < length pool.clauses → HasGained ids more id → OfPool pool more
gained_of_pool pool ids more id f l g k i = elim (g.back k i) [ inl a ↦ f k a | inr e ↦ subst (λ z. z < length pool.clauses) (sym e) l ]

-- The clauses that are left and the unions that are put in are the minimal ones of all.
module _ (spent : ℕ) (A U unions new : List (List ℕ)) (up : (c : List ℕ) → In c A → Ascending c) (useful_up : (c : List ℕ) → In c U → Ascending c)
    (minimal : (c d : List ℕ) → In c A → In d A → Inside c d → c ≡ d)
    (same : SameClauses (all_unions spent A U) unions) where
  abbrev others : List (List ℕ)
  others = apart_from spent A

  abbrev all : List (List ℕ)
  all = others ++ all_unions spent A U

  abbrev beside : List (List ℕ)
  beside = filter (stays spent unions) A

  others_up : (c : List ℕ) → In c others → Ascending c
  others_up c i = up c (apart_cases spent A c i).0

  unions_rise : (c : List ℕ) → In c unions → Ascending c
  unions_rise c i = unions_up spent A U useful_up c (same.back c i)

  module _ (made : HasUnions beside others unions unions new) where
    -- what is left has no other clause within it
    left_is_minimal : (c : List ℕ) → In c beside → In c (minimal_of (in_row_order all))
    left_is_minimal c i =
        let w : In c A × ((not (has c spent) && not (has_shorter unions c)) ≡ true) = filter_cases (stays spent unions) A c i in
        let b : (not (has c spent) ≡ true) × (not (has_shorter unions c) ≡ true) = and_parts (not (has c spent)) (not (has_shorter unions c)) w.1 in
        let there : In c others = filter_from (λ d. not (has d spent)) A c w.0 b.0 in
        minimal_of_from (in_row_order all) c (ordered_has all c (In_append_left others (all_unions spent A U) c there)) (λ S j f.
        elim (In_append_cases others (all_unions spent A U) S (ordered_parts all S j)) [
          | inl k ↦ subst (λ z. Inside c z) (sym (minimal S c (apart_cases spent A S k).0 w.0 f)) (λ n m. m)
          | inr k ↦ not_shorter unions unions_rise c (up c w.0) (not-true (has_shorter unions c) b.1) S (same.there S k) f
        ])

    put_is_minimal : (c : List ℕ) → In c unions → IsShortest others unions c → In c (minimal_of (in_row_order all))
    put_is_minimal c i s =
        minimal_of_from (in_row_order all) c (ordered_has all c (In_append_right others (all_unions spent A U) c (same.back c i))) (λ S j f.
        elim (In_append_cases others (all_unions spent A U) S (ordered_parts all S j)) [
          | inl k ↦ not_shorter others others_up c (unions_rise c i) s.by_kept S k f
          | inr k ↦ not_shorter unions unions_rise c (unions_rise c i) s.by_unions S (same.there S k) f
        ])

    minimal_is_there : (c : List ℕ) → In c (minimal_of (in_row_order all)) → In c new
    minimal_is_there c i =
        let m : In c (in_row_order all) × ((S : List ℕ) → In S (in_row_order all) → Inside S c → Inside c S) = minimal_of_parts (in_row_order all) c i in
        let tight : (S : List ℕ) → In S all → Inside S c → Inside c S = λ S j. m.1 S (ordered_has all S j) in
        let no_union : Ascending c → has_shorter unions c ≡ false = λ a. false_from_ne_true (has_shorter unions c) (λ h.
        some_shorter unions unions_rise c a h (λ S j. tight S (In_append_right others (all_unions spent A U) S (same.back S j)))) in
        let kept_there : In c others → In c new = λ k.
        let w : In c A × (In spent c → ⊥) = apart_cases spent A c k in
        made.stay c (filter_from (stays spent unions) A c w.0
        (and_from (not (has c spent)) (not (has_shorter unions c))
        (not_from_false (has c spent) (has_not c spent w.1)) (not_from_false (has_shorter unions c) (no_union (up c w.0))))) in
        elim (In_append_cases others (all_unions spent A U) c (ordered_parts all c m.0)) [
          | inl k ↦ kept_there k
          | inr k ↦
              let j : In c unions = same.there c k in
              elim (made.put c j) [
                | inl p ↦ p
                | inr n ↦ elim n [
                  | inl h ↦ absurd (both_ways (has_shorter unions c) (no_union (unions_rise c j)) h)
                  | inr s ↦
                      let equal : s.0 ≡ c = ascending_same s.0 c (others_up s.0 s.1) (unions_rise c j) s.2 (tight s.0 (In_append_left others (all_unions spent A U) s.0 s.1) s.2) in
                      kept_there (subst (λ z. In z others) equal s.1)
                ]
              ]
        ]

    pub unions_are_minimal : new ≡ minimal_of (in_row_order all)
    unions_are_minimal =
        order_same new (minimal_of (in_row_order all)) made.order
        (order_filter (λ T. list_all (λ S. not (is_inside S T) || is_inside T S) (in_row_order all)) (in_row_order all) (ordered_order all))
        (λ c i. elim (made.back c i) [ inl a ↦ left_is_minimal c a | inr b ↦ put_is_minimal c b.0 b.1 ])
        minimal_is_there

-- The same for a row of clauses of a pool, as the calls lend and make its parts.
module _ (pool : Interned) (spent : ℕ) (row useful : List ℕ) (is : IsPool pool) (of_row : OfPool pool row) (of_useful : OfPool pool useful) where
  abbrev clauses : List (List ℕ)
  clauses = clauses_at pool row

  abbrev usable : List (List ℕ)
  usable = clauses_at pool useful

  pub kept_ascend : (c : List ℕ) → In c (apart_from spent clauses) → Ascending c
  kept_ascend c i = ids_ascend pool row is of_row c (apart_cases spent clauses c i).0

  pub unions_apart_from : ((c : List ℕ) → In c usable → In spent c → ⊥) → (unions : List (List ℕ)) → SameClauses (all_unions spent clauses usable) unions → (c : List ℕ) → In c unions → In spent c → ⊥
  unions_apart_from own unions same c i = unions_apart spent clauses usable own c (same.back c i)

  pub unions_ascend : (unions : List (List ℕ)) → SameClauses (all_unions spent clauses usable) unions → (c : List ℕ) → In c unions → Ascending c
  unions_ascend unions same c i = unions_up spent clauses usable (ids_ascend pool useful is of_useful) c (same.back c i)

  pub family_ascends : (family : List (List ℕ)) → family ≡ in_row_order (apart_from spent clauses ++ all_unions spent clauses usable) → (c : List ℕ) → In c family → Ascending c
  family_ascends family e c i =
      elim (In_append_cases (apart_from spent clauses) (all_unions spent clauses usable) c
      (ordered_parts (apart_from spent clauses ++ all_unions spent clauses usable) c (subst (λ z. In c z) e i))) [
        | inl a ↦ kept_ascend c a
        | inr u ↦ unions_up spent clauses usable (ids_ascend pool useful is of_useful) c u
      ]

  module _ (order : InOrder (clauses_at pool row)) where
    pub kept_in_order : InOrder (apart_from spent clauses)
    kept_in_order = order_filter (λ c. not (has c spent)) clauses order

    pub beside_in_order : (unions left : List (List ℕ)) → left ≡ filter (stays spent unions) clauses → InOrder left
    beside_in_order unions left e = subst InOrder (sym e) (order_filter (stays spent unions) clauses order)

  pub row_is_minimal : ((c d : List ℕ) → In c clauses → In d clauses → Inside c d → c ≡ d) → (unions left new : List (List ℕ)) → SameClauses (all_unions spent clauses usable) unions →
      left ≡ filter (stays spent unions) clauses → HasUnions left (apart_from spent clauses) unions unions new →
      new ≡ minimal_of (in_row_order (apart_from spent clauses ++ all_unions spent clauses usable))
  row_is_minimal minimal unions left new same f made =
      unions_are_minimal spent clauses usable unions new (ids_ascend pool row is of_row) (ids_ascend pool useful is of_useful) minimal same
      (subst (λ z. HasUnions z (apart_from spent clauses) unions unions new) f made)

-- a family in order
pub family_is : (family cs : List (List ℕ)) → InOrder family → SameClauses cs family → family ≡ in_row_order cs
family_is family cs o same =
    order_same family (in_row_order cs) o (ordered_order cs) (λ c i. ordered_has cs c (same.back c i)) (λ c i. same.there c (ordered_parts cs c i))
