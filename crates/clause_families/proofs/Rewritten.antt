-- The row that is made from candidates is the substituted one.
use Rattle.std.proofs.Common.{◌≡◌, ℕ, Bool, true, false, not, ◌||◌, cond, List, [], ◌∷◌, ◌++◌, inl, inr, refl, sym, ◌∙◌, ap, subst}
use Rattle.std.specs.List.{list_all}
use Rattle.clause_pool.specs.{Interned.{Interned, IsPool, OfPool, clause_at, clauses_at}, Lists.{InOrder}, Clauses.{apart_from, minimal_of, in_row_order}}
use Rattle.listed.specs.Lists.{In, here, there, has, Ascending, Inside, is_inside}
use Rattle.listed.proofs.Lists.{In_append_cases, In_append_left, In_append_right, In_cases, In_has, In_map, In_map_cases, In_none, has_In}
use Rattle.listed.proofs.Orders.{ascending_same}
use Rattle.clause_pool.proofs.Clauses.{apart_cases, apart_in, minimal_of_from, minimal_of_parts}
use Rattle.clause_pool.proofs.Order.{order_filter, order_same, ordered_has, ordered_order, ordered_parts}
use Rattle.clause_families.specs.Unions.{clause_without, union_of, all_unions_for, substituted}
use Rattle.clause_families.specs.Families.{IncludesOneOf, SameClauses, Useful, all_unions, unions_of}
use Rattle.clause_families.proofs.Unions.{Comes, dropped_parts, joined_ascending, joined_cases, joined_right, replaced_cases, replaced_joined, replaced_kept}

-- a union of a clause that holds the number
pub record Union (spent : ℕ) (A U : List (List ℕ)) (c : List ℕ) : Type 0 where
  pub from : List ℕ
  pub one : In from A
  pub holds : In spent from
  pub other : List ℕ
  pub with : In other U
  pub is : c ≡ union_of (clause_without spent from) other

pub unions_cases : (spent : ℕ) (A U : List (List ℕ)) (c : List ℕ) → In c (all_unions spent A U) → Union spent A U c
unions_cases spent [] U c i = absurd (In_none i)
unions_cases spent (T ∷ A) U c i =
    elim (In_append_cases (cond (has T spent) (unions_of spent U T) []) (all_unions spent A U) c i) [
      | inl a ↦ pick (has T spent) refl a
      | inr b ↦ let w : Union spent A U c = unions_cases spent A U c b in
          record { from = w.from; one = there w.one; holds = w.holds; other = w.other; with = w.with; is = w.is }
    ]
  where
    pick : (b : Bool) → has T spent ≡ b → In c (cond b (unions_of spent U T) []) → Union spent (T ∷ A) U c
    pick true e j =
        let w : (other : List ℕ) × In other U × (c ≡ union_of (clause_without spent T) other) = In_map_cases (λ other. union_of (clause_without spent T) other) U c j in
        record { from = T; one = here; holds = has_In T spent e; other = w.0; with = w.1; is = w.2 }
    pick false e j = absurd (In_none j)

pub unions_from : (spent : ℕ) (A U : List (List ℕ)) (T other : List ℕ) → In T A → In spent T → In other U → In (union_of (clause_without spent T) other) (all_unions spent A U)
unions_from spent [] U T other i h j = absurd (In_none i)
unions_from spent (S ∷ A) U T other i h j =
    elim (In_cases i) [
      | inl e ↦
          In_append_left (cond (has S spent) (unions_of spent U S) []) (all_unions spent A U) (union_of (clause_without spent T) other)
          (subst (λ b. In (union_of (clause_without spent T) other) (cond b (unions_of spent U S) [])) (sym (In_has (subst (λ z. In spent z) e h)))
          (subst (λ z. In (union_of (clause_without spent z) other) (unions_of spent U S)) (sym e) (In_map (λ u. union_of (clause_without spent S) u) U other j)))
      | inr k ↦ In_append_right (cond (has S spent) (unions_of spent U S) []) (all_unions spent A U) (union_of (clause_without spent T) other) (unions_from spent A U T other k h j)
    ]

-- unions ascend as the other clauses do
pub unions_up : (spent : ℕ) (A U : List (List ℕ)) → ((c : List ℕ) → In c U → Ascending c) → (c : List ℕ) → In c (all_unions spent A U) → Ascending c
unions_up spent A U up c i =
    let w : Union spent A U c = unions_cases spent A U c i in
    subst Ascending (sym w.is) (joined_ascending (clause_without spent w.from) w.other (up w.other w.with))

-- and do not hold the number where the other clauses do not
pub unions_apart : (spent : ℕ) (A U : List (List ℕ)) → ((c : List ℕ) → In c U → In spent c → ⊥) → (c : List ℕ) → In c (all_unions spent A U) → In spent c → ⊥
unions_apart spent A U own c i j =
    let w : Union spent A U c = unions_cases spent A U c i in
    elim (joined_cases (clause_without spent w.from) w.other spent (subst (λ z. In spent z) w.is j)) [
      | inl k ↦ (dropped_parts spent w.from spent k).1 refl
      | inr k ↦ own w.other w.with k
    ]

-- the clauses of ids of a pool ascend
pub ids_ascend : (pool : Interned) (ids : List ℕ) → IsPool pool → OfPool pool ids → (c : List ℕ) → In c (clauses_at pool ids) → Ascending c
ids_ascend pool ids is f c i =
    let w : (id : ℕ) × In id ids × (c ≡ clause_at pool id) = In_map_cases (clause_at pool) ids c i in
    subst (λ z. Ascending z) (sym w.2) (is.ascending w.0 (f w.0 w.1))

module _ (pool : Interned) (user spent : ℕ) (row others useful : List ℕ)
    (apart : (c : List ℕ) → In c (clauses_at pool row) → In user c → ⊥)
    (u : Useful pool user (IncludesOneOf (apart_from spent (clauses_at pool row))) others useful) where
  abbrev A : List (List ℕ)
  A = clauses_at pool row

  abbrev B : List (List ℕ)
  B = clauses_at pool others

  abbrev U : List (List ℕ)
  U = clauses_at pool useful

  abbrev all : List (List ℕ)
  all = apart_from spent A ++ all_unions spent A U

  abbrev wanted : List (List ℕ)
  wanted = apart_from user (all_unions_for spent A B)

  part : (c : List ℕ) → In c all → In c wanted
  part c i =
      elim (In_append_cases (apart_from spent A) (all_unions spent A U) c i) [
        | inl a ↦
            let w : In c A × (In spent c → ⊥) = apart_cases spent A c a in
            apart_in user (all_unions_for spent A B) c (replaced_kept spent A B c w.0 w.1) (apart c w.0)
        | inr b ↦
            let w : Union spent A U c = unions_cases spent A U c b in
            let o : (id : ℕ) × In id useful × (w.other ≡ clause_at pool id) = In_map_cases (clause_at pool) useful w.other w.with in
            let of_others : In w.other B = subst (λ z. In z B) (sym o.2) (In_map (clause_at pool) others o.0 (u.part o.0 o.1)) in
            apart_in user (all_unions_for spent A B) c (subst (λ z. In z (all_unions_for spent A B)) (sym w.is) (replaced_joined spent A B w.from w.other w.one w.holds of_others))
            (λ j. elim (joined_cases (clause_without spent w.from) w.other user (subst (λ z. In user z) w.is j)) [
              | inl k ↦ apart w.from w.one (dropped_parts spent w.from user k).0
              | inr k ↦ u.apart o.0 o.1 (subst (λ z. In user z) o.2 k)
            ])
      ]

  covers : (c : List ℕ) → In c wanted → (s : List ℕ) × In s all × Inside s c
  covers c i =
      let w : In c (all_unions_for spent A B) × (In user c → ⊥) = apart_cases user (all_unions_for spent A B) c i in
      let from : (T : List ℕ) × In T A × Comes spent B T c = replaced_cases spent A B c w.0 in
      elim from.2.how [
        | inl kept ↦
            let at : In c (apart_from spent A) = subst (λ z. In z (apart_from spent A)) (sym kept.1) (apart_in spent A from.0 from.1 kept.0) in
            (c, In_append_left (apart_from spent A) (all_unions spent A U) c at, λ n j. j)
        | inr made ↦
            let o : (id : ℕ) × In id others × (made.0 ≡ clause_at pool id) = In_map_cases (clause_at pool) others made.0 made.1 in
            elim (u.rest o.0 o.1) [
              | inl a ↦
                  let at : In made.0 U = subst (λ z. In z U) (sym o.2) (In_map (clause_at pool) useful o.0 a) in
                  (c, In_append_right (apart_from spent A) (all_unions spent A U) c (subst (λ z. In z (all_unions spent A U)) (sym made.3) (unions_from spent A U from.0 made.0 from.1 made.2 at)), λ n j. j)
              | inr b ↦ elim b [
                | inl h ↦ absurd (w.1 (subst (λ z. In user z) (sym made.3) (joined_right (clause_without spent from.0) made.0 user (subst (λ z. In user z) (sym o.2) h))))
                | inr s ↦ (
                  s.0,
                  In_append_left (apart_from spent A) (all_unions spent A U) s.0 s.1,
                  λ n j. subst (λ z. In n z) (sym made.3) (joined_right (clause_without spent from.0) made.0 n (subst (λ z. In n z) (sym o.2) (s.2 n j))),
                )
              ]
            ]
      ]

  module _ (is : IsPool pool) (of_row : OfPool pool row) (of_others : OfPool pool others) where
    up : (ids : List ℕ) → OfPool pool ids → (c : List ℕ) → In c (clauses_at pool ids) → Ascending c
    up ids f = ids_ascend pool ids is f

    wanted_up : (c : List ℕ) → In c wanted → Ascending c
    wanted_up c i =
        let from : (T : List ℕ) × In T A × Comes spent B T c = replaced_cases spent A B c (apart_cases user (all_unions_for spent A B) c i).0 in
        elim from.2.how [
          | inl kept ↦ subst (λ z. Ascending z) (sym kept.1) (up row of_row from.0 from.1)
          | inr made ↦ subst (λ z. Ascending z) (sym made.3) (joined_ascending (clause_without spent from.0) made.0 (up others of_others made.0 made.1))
        ]

    module _ (family : List (List ℕ)) (same : SameClauses all family) (order : InOrder family) where
      pub family_minimal : minimal_of family ≡ in_row_order (substituted user spent (clauses_at pool row) (clauses_at pool others))
      family_minimal =
          order_same (minimal_of family) (in_row_order (minimal_of wanted))
          (order_filter (λ T. list_all (λ S. not (is_inside S T) || is_inside T S) family) family order)
          (ordered_order (minimal_of wanted))
          (λ c i.
          let m : In c family × ((S : List ℕ) → In S family → Inside S c → Inside c S) = minimal_of_parts family c i in
          ordered_has (minimal_of wanted) c (minimal_of_from wanted c (part c (same.back c m.0))
          (λ S j f. let s : (s : List ℕ) × In s all × Inside s S = covers S j in λ n k. s.2 n (m.1 s.0 (same.there s.0 s.1) (λ o l. f o (s.2 o l)) n k))))
          (λ c i.
          let m : In c wanted × ((S : List ℕ) → In S wanted → Inside S c → Inside c S) = minimal_of_parts wanted c (ordered_parts (minimal_of wanted) c i) in
          let s : (s : List ℕ) × In s all × Inside s c = covers c m.0 in
          let equal : s.0 ≡ c = ascending_same s.0 c (wanted_up s.0 (part s.0 s.1)) (wanted_up c m.0) s.2 (m.1 s.0 (part s.0 s.1) s.2) in
          minimal_of_from family c (subst (λ z. In z family) equal (same.there s.0 s.1)) (λ S j f. m.1 S (part S (same.back S j)) f))

    -- where no union is wanted, the clauses that hold the package only go
    pub shortened : useful ≡ [] → InOrder (clauses_at pool row) → ((c d : List ℕ) → In c (clauses_at pool row) → In d (clauses_at pool row) → Inside c d → c ≡ d) →
        apart_from spent (clauses_at pool row) ≡ in_row_order (substituted user spent (clauses_at pool row) (clauses_at pool others))
    shortened none order thin =
        let family : List (List ℕ) = apart_from spent (clauses_at pool row) in
        let family_order : InOrder family = order_filter (λ c. not (has c spent)) (clauses_at pool row) order in
        let same : SameClauses all family = record {
          there = λ c i. elim (In_append_cases (apart_from spent A) (all_unions spent A U) c i) [
            | inl a ↦ a
            | inr b ↦ let w : Union spent A U c = unions_cases spent A U c b in absurd (In_none (subst (λ z. In w.other (clauses_at pool z)) none w.with))
          ];
          back = λ c i. In_append_left (apart_from spent A) (all_unions spent A U) c i;
        } in
        order_same family (minimal_of family) family_order
        (order_filter (λ T. list_all (λ S. not (is_inside S T) || is_inside T S) family) family family_order)
        (λ c i. minimal_of_from family c i (λ S j f.
        subst (λ z. Inside c z) (sym (thin S c (apart_cases spent (clauses_at pool row) S j).0 (apart_cases spent (clauses_at pool row) c i).0 f)) (λ n k. k)))
        (λ c i. (minimal_of_parts family c i).0)
        ∙ family_minimal family same family_order

-- the same for useful clauses as they are lent
module _ (pool : Interned) (user spent : ℕ) (row others useful slice : List ℕ) (is : IsPool pool) (of_row : OfPool pool row) (of_others : OfPool pool others)
    (apart : (c : List ℕ) → In c (clauses_at pool row) → In user c → ⊥) (is_slice : slice ≡ useful)
    (u : Useful pool user (IncludesOneOf (apart_from spent (clauses_at pool row))) others useful) where
  -- the minimal clauses of the row and of the unions make the substituted row
  pub unions_minimal : minimal_of (in_row_order (apart_from spent (clauses_at pool row) ++ all_unions spent (clauses_at pool row) (clauses_at pool slice)))
      ≡ in_row_order (substituted user spent (clauses_at pool row) (clauses_at pool others))
  unions_minimal =
      let both : List ℕ → List (List ℕ) = λ ids. apart_from spent (clauses_at pool row) ++ all_unions spent (clauses_at pool row) (clauses_at pool ids) in
      let same : SameClauses (both useful) (in_row_order (both useful)) = record { there = ordered_has (both useful); back = ordered_parts (both useful) } in
      ap (λ ids. minimal_of (in_row_order (both ids))) is_slice
      ∙ family_minimal pool user spent row others useful apart u is of_row of_others (in_row_order (both useful)) same (ordered_order (both useful))

  useful_part : (id : ℕ) → In id slice → In id others
  useful_part id i = u.part id (subst (λ z. In id z) is_slice i)

  -- the useful clauses are among the others
  pub useful_there : (c : List ℕ) → In c (clauses_at pool slice) → In c (clauses_at pool others)
  useful_there c i =
      let w : (id : ℕ) × In id slice × (c ≡ clause_at pool id) = In_map_cases (clause_at pool) slice c i in
      subst (λ z. In z (clauses_at pool others)) (sym w.2) (In_map (clause_at pool) others w.0 (useful_part w.0 w.1))

  -- the ids of the useful clauses are of the pool
  pub useful_of_pool : OfPool pool slice
  useful_of_pool id i = of_others id (useful_part id i)
