-- Clauses in their order, and the rank of each.
use Rattle.std.proofs.Common.{◌≡◌, ◌≢◌, ℕ, zero, suc, ◌+◌, ◌<◌, Bool, true, false, cond, eqb, List, [], ◌∷◌, ◌++◌, length, get_or, map, set, take, inl, inr}
use Rattle.std.proofs.{Common.{refl, sym, ap, ap₂, subst, ◌∙◌, arith, eq-eqb}, lemmas.Bool.{both_ways, cases_Bool, cases_eq, cases_lt, false_from_ne_true}}
use Rattle.std.proofs.{lemmas.List.{get_or-set_other, get_or-set_same, map-append, take_more}, lemmas.List.Kept.{Contains-from_dedup}}
use Rattle.std.proofs.lemmas.List.Sorted.{Contains-permutation, IsPermutation-sym}
use Rattle.std.specs.{Cmp.{IsStrictWeakOrder}, List.{dedup, dedup_from}, List.Sorted.{IsPermutation, IsSortedBy}}
use Rattle.clause_pool.specs.{Interned.{Interned, clause_at, clauses_at, IsPool, OfPool}, Clauses.{comes_before, in_row_order}, Lists.{Before, InOrder}}
use Rattle.listed.proofs.{Orders.{once_same}, Lists.{In_cases, In_none, In_map, In_map_cases, In_at, In_place, contains_in, in_contains}}
use Rattle.listed.specs.Lists.{Ascending, In, here, there}
use Rattle.clause_pool.proofs.Order.{before_asym, before_is, before_test, before_trans, neither_before, order_same, ordered_has, ordered_order, ordered_parts}
use Rattle.repo_model.specs.{Ranks.{clauses_marked, ids_of_ranks, AreOrdered, AreRanked, EachIdOnce, HasPlaces, IsRanking}, declared.ranks.Ranks.{Ranks}}

module _ (pool : Interned) where
  abbrev pub is_earlier : ℕ → ℕ → Bool
  is_earlier x y = comes_before (clause_at pool x) (clause_at pool y)

  one_way : (x y : ℕ) → is_earlier x y ≡ true → is_earlier y x ≡ false
  one_way x y h =
      let c : List ℕ = clause_at pool x in
      let d : List ℕ = clause_at pool y in
      false_from_ne_true (comes_before d c) (λ t. before_asym c d (before_test c d h) (before_test d c t))

  chain : (x y z : ℕ) → is_earlier x y ≡ false → is_earlier y z ≡ false → is_earlier x z ≡ false
  chain x y z f g =
      let a : List ℕ = clause_at pool x in
      let b : List ℕ = clause_at pool y in
      let c : List ℕ = clause_at pool z in
      false_from_ne_true (comes_before a c)
      (λ t. elim (cases_Bool (comes_before b a)) [
        | inl u ↦ both_ways (comes_before b c) g (before_is b c (before_trans b a c (before_test b a u) (before_test a c t)))
        | inr v ↦ both_ways (comes_before b c) g (subst (λ s. comes_before s c ≡ true) (neither_before a b f v) t)
      ])

  pub earlier_orders : IsStrictWeakOrder is_earlier
  earlier_orders = record { one_way = one_way; chain = chain }

  -- no clause is before one in front of it
  abbrev Rises : List ℕ → Type 0
  Rises [] = Unit {0}
  Rises (x ∷ xs) = ((y : ℕ) → In y xs → is_earlier y x ≡ false) × Rises xs

  rises_from : (xs : List ℕ) → IsSortedBy is_earlier xs → Rises xs
  rises_from [] s = tt
  rises_from (x ∷ []) s = ((λ y i. absurd (In_none i)), tt)
  rises_from (x ∷ (y ∷ ys)) s =
      let next : (k : ℕ) → suc k + 1 ≡ suc (k + 1) = λ k. omega arith in
      let rest : Rises (y ∷ ys) =
      rises_from (y ∷ ys) (λ k d l m. subst (λ n. is_earlier (get_or (x ∷ (y ∷ ys)) n d) (get_or (y ∷ ys) k d) ≡ false) (next k) (s (suc k) d (omega arith) (omega arith))) in
      let first : is_earlier y x ≡ false = s 0 0 (omega arith) (omega arith) in (
        (λ z i. elim (In_cases i) [
          | inl e ↦ subst (λ q. is_earlier q x ≡ false) (sym e) first
          | inr j ↦ chain z y x (rest.0 z j) first
        ]),
        rest,
      )

  kept_one : (x : ℕ) (ys : List ℕ) (d : ℕ) → In d (dedup_from eqb x ys) → In d (x ∷ ys)
  kept_one x ys d i = contains_in (x ∷ ys) d (Contains-from_dedup eqb (x ∷ ys) d (in_contains (dedup_from eqb x ys) d i))

  module _ (sound : IsPool pool) where
    strictly : (x y : ℕ) → x < length pool.clauses → y < length pool.clauses → is_earlier y x ≡ false → eqb y x ≡ false → Before (clause_at pool x) (clause_at pool y)
    strictly x y l m h e =
        elim (cases_Bool (is_earlier x y)) [
          | inl t ↦ before_test (clause_at pool x) (clause_at pool y) t
          | inr f ↦ absurd (both_ways (eqb y x) e (eq-eqb y x (sound.clauses_once y x m l (sym (neither_before (clause_at pool x) (clause_at pool y) f h)))))
        ]

    -- a later clause is behind the one that stands before it or is the same
    ahead : (x y d : ℕ) → Before (clause_at pool x) (clause_at pool y) → is_earlier d y ≡ false → Before (clause_at pool x) (clause_at pool d)
    ahead x y d first h =
        elim (cases_Bool (is_earlier y d)) [
          | inl t ↦ before_trans (clause_at pool x) (clause_at pool y) (clause_at pool d) first (before_test (clause_at pool y) (clause_at pool d) t)
          | inr f ↦ subst (λ s. Before (clause_at pool x) s) (neither_before (clause_at pool y) (clause_at pool d) f h) first
        ]

    once_in_order : (x : ℕ) (ys : List ℕ) → Rises (x ∷ ys) → OfPool pool (x ∷ ys) → InOrder (clauses_at pool (dedup_from eqb x ys))
    once_in_order x [] r w = ((λ c i. absurd (In_none i)), tt)
    once_in_order x (y ∷ ys) r w =
        pick (eqb y x) refl
        (once_in_order x ys ((λ z i. r.0 z (there i)), r.1.1) (λ z i. elim (In_cases i) [ inl e ↦ w z (subst (λ q. In q (x ∷ (y ∷ ys))) (sym e) here) | inr j ↦ w z (there (there j)) ]))
        (once_in_order y ys r.1 (λ z i. w z (there i)))
      where
        pick : (b : Bool) → eqb y x ≡ b → InOrder (clauses_at pool (dedup_from eqb x ys)) → InOrder (clauses_at pool (dedup_from eqb y ys)) →
            InOrder (clauses_at pool (cond b (dedup_from eqb x ys) (x ∷ dedup_from eqb y ys)))
        pick true e same other = same
        pick false e same other =
            let first : Before (clause_at pool x) (clause_at pool y) = strictly x y (w x here) (w y (there here)) (r.0 y here) e in (
              (λ c i.
                  let v : (d : ℕ) × In d (dedup_from eqb y ys) × (c ≡ clause_at pool d) = In_map_cases (clause_at pool) (dedup_from eqb y ys) c i in
                  subst (λ s. Before (clause_at pool x) s) (sym v.2)
                  (elim (In_cases (kept_one y ys v.0 v.1)) [
                    | inl q ↦ subst (λ z. Before (clause_at pool x) (clause_at pool z)) (sym q) first
                    | inr j ↦ ahead x y v.0 first (r.1.0 v.0 j)
                  ])),
              other,
            )

    all_in_order : (xs : List ℕ) → Rises xs → OfPool pool xs → InOrder (clauses_at pool (dedup eqb xs))
    all_in_order [] r w = tt
    all_in_order (x ∷ xs) r w = once_in_order x xs r w

    pub ordered_by_sort : (ids sorted order : List ℕ) → OfPool pool ids → IsPermutation ids sorted → IsSortedBy is_earlier sorted → order ≡ dedup eqb sorted → AreOrdered pool ids order
    ordered_by_sort ids sorted order of_pool moved rises is =
        let same = once_same ids sorted order moved is in
        record {
          in_order = subst (λ xs. InOrder (clauses_at pool xs)) (sym is) (all_in_order sorted (rises_from sorted rises) (λ id i. of_pool id (moved_back id i)));
          inside = λ id i. (same id).0 i;
          each = λ id i. (same id).1 i;
        }
      where
        moved_back : (id : ℕ) → In id sorted → In id ids
        moved_back id i = contains_in ids id (Contains-permutation sorted ids id (IsPermutation-sym ids sorted moved) (in_contains sorted id i))

-- clauses in order are so from place to place
pub before_from : (f : ℕ → List ℕ) (xs : List ℕ) → InOrder (map f xs) → (i j : ℕ) → i < j → j < length xs → Before (f (get_or xs i 0)) (f (get_or xs j 0))
before_from f [] a i j l u = absurd (omega arith)
before_from f (x ∷ xs) a zero zero l u = absurd (omega arith)
before_from f (x ∷ xs) a zero (suc j) l u = a.0 (f (get_or xs j 0)) (In_map f xs (get_or xs j 0) (In_at xs j 0 (omega arith)))
before_from f (x ∷ xs) a (suc i) zero l u = absurd (omega arith)
before_from f (x ∷ xs) a (suc i) (suc j) l u = before_from f xs a.1 i j (omega arith) (omega arith)

pub once_in : (f : ℕ → List ℕ) (xs : List ℕ) → InOrder (map f xs) → EachIdOnce xs
once_in f xs a i j l m e =
    elim (cases_eq i j) [
      | inl same ↦ same
      | inr ne ↦ elim (cases_lt i j) [
        | inl h ↦ let b : Before (f (get_or xs i 0)) (f (get_or xs j 0)) = before_from f xs a i j h m in
            absurd (twice (f (get_or xs j 0)) (subst (λ x. Before (f x) (f (get_or xs j 0))) e b))
        | inr h ↦ let b : Before (f (get_or xs j 0)) (f (get_or xs i 0)) = before_from f xs a j i (omega (arith, ne)) l in
            absurd (twice (f (get_or xs i 0)) (subst (λ x. Before (f x) (f (get_or xs i 0))) (sym e) b))
      ]
    ]
  where
    twice : (c : List ℕ) → Before c c → ⊥
    twice c b = before_asym c c b b

-- one more number
pub map_more : (f : ℕ → ℕ) (xs made more : List ℕ) (i y : ℕ) → i < length xs → made ≡ map f (take i xs) → more ≡ made ++ y ∷ [] → y ≡ f (get_or xs i 0) → more ≡ map f (take (i + 1) xs)
map_more f xs made more i y l so_far pushed is =
    pushed ∙ ap₂ (λ zs z. zs ++ z ∷ []) so_far is ∙ sym (map-append f (take i xs) (get_or xs i 0 ∷ [])) ∙ sym (ap (map f) (take_more xs i 0 l))

-- one more id has its place
pub placed_more : (order places : List ℕ) (place id rank : ℕ) → EachIdOnce order → place < length order → id ≡ get_or order place 0 → rank ≡ place → id < length places →
    ((k : ℕ) → k < place → get_or places (get_or order k 0) 0 ≡ k) → (k : ℕ) → k < place + 1 → get_or (set places id rank) (get_or order k 0) 0 ≡ k
placed_more order places place id rank once within is rises inside so_far k l =
    elim (cases_lt k place) [
      | inl m ↦
          let apart : get_or order k 0 ≢ id = λ e. let same : k ≡ place = once k place (omega arith) within (e ∙ is) in omega arith in
          get_or-set_other places id (get_or order k 0) rank 0 apart ∙ so_far k m
      | inr g ↦
          let e : k ≡ place = omega arith in
          ap (λ n. get_or (set places id rank) (get_or order n 0) 0) e ∙ ap (λ n. get_or (set places id rank) n 0) (sym is) ∙ get_or-set_same places id rank 0 inside ∙ rises ∙ sym e
    ]

-- the places of ids are their ranks
module _ (pool : Interned) (ids : List ℕ) (made : Ranks) (places : List ℕ) (ordered : AreOrdered pool ids made.order.items) (placed : HasPlaces made.order.items places)
    (ranks : made.ranks.items ≡ map (λ id. get_or places id 0) ids) where
  placed_at : (id : ℕ) → In id ids → (get_or places id 0 < length made.order.items) × (get_or made.order.items (get_or places id 0) 0 ≡ id)
  placed_at id i =
      let w : (k : ℕ) × (k < length made.order.items) × (get_or made.order.items k 0 ≡ id) = In_place made.order.items id 0 (ordered.each id i) in
      let at : get_or places id 0 ≡ w.0 = ap (λ x. get_or places x 0) (sym w.2) ∙ placed w.0 w.1 in
      (subst (λ k. k < length made.order.items) (sym at) w.1, ap (λ k. get_or made.order.items k 0) at ∙ w.2)

  back : (xs : List ℕ) → ((id : ℕ) → In id xs → In id ids) → map (λ rank. get_or made.order.items rank 0) (map (λ id. get_or places id 0) xs) ≡ xs
  back [] f = refl
  back (x ∷ xs) f = ap (λ y. y ∷ map (λ rank. get_or made.order.items rank 0) (map (λ id. get_or places id 0) xs)) (placed_at x (f x here)).1 ∙ ap (λ ys. x ∷ ys) (back xs (λ id i. f id (there i)))

  pub ranked : IsPool pool → OfPool pool ids → AreRanked pool ids made
  ranked sound of_pool = record {
    sound = sound;
    ranking = record {
      in_order = ordered.in_order;
      of_pool = λ id i. of_pool id (ordered.inside id i);
      within = λ rank i.
          let w : (id : ℕ) × In id ids × (rank ≡ get_or places id 0) = In_map_cases (λ id. get_or places id 0) ids rank (subst (λ xs. In rank xs) ranks i) in
          subst (λ k. k < length made.order.items) (sym w.2) (placed_at w.0 w.1).0;
    };
    each = ap (map (λ rank. get_or made.order.items rank 0)) ranks ∙ back ids (λ id i. i);
  }

-- the row of ranks that ascend
module _ (pool : Interned) (made : Ranks) (is : IsRanking pool made) where
  abbrev clause_ranked : ℕ → List ℕ
  clause_ranked rank = clause_at pool (get_or made.order.items rank 0)

  pub ranked_in_order : (ranks : List ℕ) → Ascending ranks → ((rank : ℕ) → In rank ranks → rank < length made.order.items) → InOrder (clauses_at pool (ids_of_ranks made.order.items ranks))
  ranked_in_order [] a w = tt
  ranked_in_order (x ∷ xs) a w = (
    (λ c i.
        let v : (id : ℕ) × In id (ids_of_ranks made.order.items xs) × (c ≡ clause_at pool id) = In_map_cases (clause_at pool) (ids_of_ranks made.order.items xs) c i in
        let u : (rank : ℕ) × In rank xs × (v.0 ≡ get_or made.order.items rank 0) = In_map_cases (λ rank. get_or made.order.items rank 0) xs v.0 v.1 in
        subst (λ s. Before (clause_ranked x) s) (sym (v.2 ∙ ap (clause_at pool) u.2))
        (before_from (clause_at pool) made.order.items is.in_order x u.0 (a.0 u.0 u.1) (w u.0 (there u.1)))),
    ranked_in_order xs a.1 (λ rank i. w rank (there i)),
  )

  pub ranked_of_pool : (ranks : List ℕ) → ((rank : ℕ) → In rank ranks → rank < length made.order.items) → OfPool pool (ids_of_ranks made.order.items ranks)
  ranked_of_pool ranks w id i =
      let u : (rank : ℕ) × In rank ranks × (id ≡ get_or made.order.items rank 0) = In_map_cases (λ rank. get_or made.order.items rank 0) ranks id i in
      subst (λ z. z < length pool.clauses) (sym u.2) (is.of_pool (get_or made.order.items u.0 0) (In_at made.order.items u.0 0 (w u.0 u.1)))

  -- the ranks of marks are places in the order
  pub ranks_within : (marks ranks : List ℕ) → ((mark : ℕ) → In mark marks → mark < length made.ranks.items) → ((rank : ℕ) → In rank ranks → In rank (map (λ mark. get_or made.ranks.items mark 0) marks)) →
      (rank : ℕ) → In rank ranks → rank < length made.order.items
  ranks_within marks ranks w there_all rank i =
      let m : (mark : ℕ) × In mark marks × (rank ≡ get_or made.ranks.items mark 0) = In_map_cases (λ mark. get_or made.ranks.items mark 0) marks rank (there_all rank i) in
      is.within rank (subst (λ z. In z made.ranks.items) (sym m.2) (In_at made.ranks.items m.0 0 (w m.0 m.1)))

  -- the row of marks is that of their distinct ranks
  pub row_ranked : (marks ranks : List ℕ) → Ascending ranks → ((rank : ℕ) → In rank ranks → rank < length made.order.items) →
      ((rank : ℕ) → In rank ranks → In rank (map (λ mark. get_or made.ranks.items mark 0) marks)) → ((rank : ℕ) → In rank (map (λ mark. get_or made.ranks.items mark 0) marks) → In rank ranks) →
      clauses_at pool (ids_of_ranks made.order.items ranks) ≡ in_row_order (clauses_marked pool made marks)
  row_ranked marks ranks a w there_all all_there =
      order_same (clauses_at pool (ids_of_ranks made.order.items ranks)) (in_row_order (clauses_marked pool made marks)) (ranked_in_order ranks a w) (ordered_order (clauses_marked pool made marks))
      (λ c i.
      let v : (id : ℕ) × In id (ids_of_ranks made.order.items ranks) × (c ≡ clause_at pool id) = In_map_cases (clause_at pool) (ids_of_ranks made.order.items ranks) c i in
      let u : (rank : ℕ) × In rank ranks × (v.0 ≡ get_or made.order.items rank 0) = In_map_cases (λ rank. get_or made.order.items rank 0) ranks v.0 v.1 in
      let m : (mark : ℕ) × In mark marks × (u.0 ≡ get_or made.ranks.items mark 0) = In_map_cases (λ mark. get_or made.ranks.items mark 0) marks u.0 (there_all u.0 u.1) in
      ordered_has (clauses_marked pool made marks) c
      (subst (λ s. In s (clauses_marked pool made marks)) (sym (v.2 ∙ ap (clause_at pool) u.2 ∙ ap clause_ranked m.2))
      (In_map (λ mark. clause_ranked (get_or made.ranks.items mark 0)) marks m.0 m.1)))
      (λ c i.
      let m : (mark : ℕ) × In mark marks × (c ≡ clause_ranked (get_or made.ranks.items mark 0)) =
      In_map_cases (λ mark. clause_ranked (get_or made.ranks.items mark 0)) marks c (ordered_parts (clauses_marked pool made marks) c i) in
      let rank : ℕ = get_or made.ranks.items m.0 0 in
      let r : In rank ranks = all_there rank (In_map (λ mark. get_or made.ranks.items mark 0) marks m.0 m.1) in
      subst (λ s. In s (clauses_at pool (ids_of_ranks made.order.items ranks))) (sym m.2)
      (In_map (clause_at pool) (ids_of_ranks made.order.items ranks) (get_or made.order.items rank 0) (In_map (λ k. get_or made.order.items k 0) ranks rank r)))
