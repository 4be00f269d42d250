-- Ids in the order of their clauses, and one more of them put into its place.
use Rattle.std.proofs.Common.{◌≡◌, ◌≢◌, ℕ, zero, suc, ◌<◌, ◌≤◌, ◌+◌, true, false, List, [], ◌∷◌, ◌++◌, inl, inr, sym, ◌∙◌, ap, subst, length, get_or, map, take}
use Rattle.std.proofs.{Common.{drop, arith}, lemmas.Bool.{both_ways, cases_Bool, cases_eq, false_from_ne_true}, lemmas.List.{map-append, take-append-drop}}
use Rattle.std.specs.List.{insert}
use Rattle.clause_pool.specs.{Interned.{Interned, IsPool, OfPool, clause_at, clauses_at}, Lists.{Before, InOrder}, Clauses.{comes_before}}
use Rattle.clause_pool.proofs.{Lists.{In_at}, Order.{before_test, before_trans, neither_before, order_append, before_is}}
use Rattle.listed.specs.Lists.{In, here, there}
use Rattle.listed.proofs.Lists.{In_append_cases, In_append_left, In_append_right, In_cases, In_map_cases, In_none}
use Rattle.clause_families.specs.Families.{HasGained}
use Rattle.clause_families.proofs.{Beginnings.{order_places}, Families.{clauses_item, clauses_length}}

-- ids in order at places
module _ (pool : Interned) (ids : List ℕ) (order : InOrder (clauses_at pool ids)) where
  pub ids_places : (i j : ℕ) → i < j → j < length ids → Before (clause_at pool (get_or ids i 0)) (clause_at pool (get_or ids j 0))
  ids_places i j l u =
      let n : length (clauses_at pool ids) ≡ length ids = clauses_length pool ids in
      subst (λ z. Before z (clause_at pool (get_or ids j 0))) (clauses_item pool ids i (omega arith))
      (subst (λ z. Before (get_or (clauses_at pool ids) i []) z) (clauses_item pool ids j u) (order_places (clauses_at pool ids) order i j l (omega arith) []))

  -- the clauses before one that comes before the wanted one do so too
  pub before_up_to : (clause : List ℕ) (middle : ℕ) → middle < length ids → comes_before (clause_at pool (get_or ids middle 0)) clause ≡ true
      → (k : ℕ) → k < middle + 1 → comes_before (clause_at pool (get_or ids k 0)) clause ≡ true
  before_up_to clause middle u h k l =
      elim (cases_eq k middle) [
        | inl e ↦ subst (λ z. comes_before (clause_at pool (get_or ids z 0)) clause ≡ true) (sym e) h
        | inr ne ↦ before_is (clause_at pool (get_or ids k 0)) clause
            (before_trans (clause_at pool (get_or ids k 0)) (clause_at pool (get_or ids middle 0)) clause (ids_places k middle (omega (arith, ne)) u)
            (before_test (clause_at pool (get_or ids middle 0)) clause h))
      ]

  -- and those behind one that does not do not either
  pub behind_from : (clause : List ℕ) (middle : ℕ) → comes_before (clause_at pool (get_or ids middle 0)) clause ≡ false
      → (k : ℕ) → middle ≤ k → k < length ids → comes_before (clause_at pool (get_or ids k 0)) clause ≡ false
  behind_from clause middle h k l u =
      elim (cases_eq middle k) [
        | inl e ↦ subst (λ z. comes_before (clause_at pool (get_or ids z 0)) clause ≡ false) e h
        | inr ne ↦ false_from_ne_true (comes_before (clause_at pool (get_or ids k 0)) clause) (λ t.
            both_ways (comes_before (clause_at pool (get_or ids middle 0)) clause) h
            (before_is (clause_at pool (get_or ids middle 0)) clause
            (before_trans (clause_at pool (get_or ids middle 0)) (clause_at pool (get_or ids k 0)) clause (ids_places middle k (omega (arith, ne)) u)
            (before_test (clause_at pool (get_or ids k 0)) clause t))))
      ]

-- elements of a front and of a rest, by their places
taken_place : (xs : List ℕ) (i y : ℕ) → In y (take i xs) → (k : ℕ) × (k < i) × (k < length xs) × (get_or xs k 0 ≡ y)
taken_place [] zero y j = absurd (In_none j)
taken_place [] (suc i) y j = absurd (In_none j)
taken_place (x ∷ xs) zero y j = absurd (In_none j)
taken_place (x ∷ xs) (suc i) y j =
    elim (In_cases j) [
      | inl e ↦ (0, omega arith, omega arith, sym e)
      | inr r ↦ let w : (k : ℕ) × (k < i) × (k < length xs) × (get_or xs k 0 ≡ y) = taken_place xs i y r in (suc w.0, omega (arith, w.1), omega (arith, w.2), w.3)
    ]

left_place : (xs : List ℕ) (i y : ℕ) → In y (drop i xs) → (k : ℕ) × (i ≤ k) × (k < length xs) × (get_or xs k 0 ≡ y)
left_place [] zero y j = absurd (In_none j)
left_place [] (suc i) y j = absurd (In_none j)
left_place (x ∷ xs) zero y j =
    elim (In_cases j) [
      | inl e ↦ (0, omega arith, omega arith, sym e)
      | inr r ↦ let w : (k : ℕ) × (0 ≤ k) × (k < length xs) × (get_or xs k 0 ≡ y) = left_place xs zero y r in (suc w.0, omega arith, omega (arith, w.2), w.3)
    ]
left_place (x ∷ xs) (suc i) y j =
    let w : (k : ℕ) × (i ≤ k) × (k < length xs) × (get_or xs k 0 ≡ y) = left_place xs i y j in (suc w.0, omega (arith, w.1), omega (arith, w.2), w.3)

order_front : (xs ys : List (List ℕ)) → InOrder (xs ++ ys) → InOrder xs × InOrder ys
order_front [] ys o = (tt, o)
order_front (x ∷ xs) ys o =
    let w : InOrder xs × InOrder ys = order_front xs ys o.1 in
    (((λ d i. o.0 d (In_append_left xs ys d i)), w.0), w.1)

-- one more element
pub gained : (ids new : List ℕ) (place id : ℕ) → new ≡ insert ids place id → HasGained ids new id
gained ids new place id is =
    let whole : take place ids ++ drop place ids ≡ ids = take-append-drop place ids in
    record {
      stay = λ k i. subst (λ z. In k z) (sym is) (elim (In_append_cases (take place ids) (drop place ids) k (subst (λ z. In k z) (sym whole) i)) [
        | inl a ↦ In_append_left (take place ids) (id ∷ drop place ids) k a
        | inr b ↦ In_append_right (take place ids) (id ∷ drop place ids) k (there b)
      ]);
      one = subst (λ z. In id z) (sym is) (In_append_right (take place ids) (id ∷ drop place ids) id here);
      back = λ k i. elim (In_append_cases (take place ids) (id ∷ drop place ids) k (subst (λ z. In k z) is i)) [
        | inl a ↦ inl (subst (λ z. In k z) whole (In_append_left (take place ids) (drop place ids) k a))
        | inr b ↦ elim (In_cases b) [
          | inl e ↦ inr e
          | inr c ↦ inl (subst (λ z. In k z) whole (In_append_right (take place ids) (drop place ids) k c))
        ]
      ];
    }

pub gained_none : (ids : List ℕ) (id : ℕ) → In id ids → HasGained ids ids id
gained_none ids id i = record { stay = λ k j. j; one = i; back = λ k j. inl j }

-- stands in order at the place behind those that come before it, where it is not there yet
module _ (pool : Interned) (ids : List ℕ) (id place : ℕ) (is : IsPool pool) (of_pool : OfPool pool ids) (of_id : id < length pool.clauses)
    (order : InOrder (clauses_at pool ids))
    (before : (k : ℕ) → k < place → comes_before (clause_at pool (get_or ids k 0)) (clause_at pool id) ≡ true)
    (behind : (k : ℕ) → place ≤ k → k < length ids → comes_before (clause_at pool (get_or ids k 0)) (clause_at pool id) ≡ false)
    (other : place < length ids → get_or ids place 0 ≢ id) where
  differs : (k : ℕ) → place ≤ k → k < length ids → clause_at pool (get_or ids k 0) ≢ clause_at pool id
  differs k l u e =
      elim (cases_eq place k) [
        | inl s ↦
            let m : place < length ids = omega arith in
            other m (is.clauses_once (get_or ids place 0) id (of_pool (get_or ids place 0) (In_at ids place 0 m)) of_id
            (subst (λ z. clause_at pool (get_or ids z 0) ≡ clause_at pool id) (sym s) e))
        | inr ne ↦
            let b : Before (clause_at pool (get_or ids place 0)) (clause_at pool (get_or ids k 0)) = ids_places pool ids order place k (omega (arith, ne)) u in
            both_ways (comes_before (clause_at pool (get_or ids place 0)) (clause_at pool id)) (behind place (omega arith) (omega arith))
            (before_is (clause_at pool (get_or ids place 0)) (clause_at pool id) (subst (λ z. Before (clause_at pool (get_or ids place 0)) z) e b))
      ]

  comes_after : (k : ℕ) → place ≤ k → k < length ids → Before (clause_at pool id) (clause_at pool (get_or ids k 0))
  comes_after k l u =
      elim (cases_Bool (comes_before (clause_at pool id) (clause_at pool (get_or ids k 0)))) [
        | inl h ↦ before_test (clause_at pool id) (clause_at pool (get_or ids k 0)) h
        | inr h ↦ absurd (differs k l u (neither_before (clause_at pool (get_or ids k 0)) (clause_at pool id) (behind k l u) h))
      ]

  pub order_gained : (new : List ℕ) → new ≡ insert ids place id → InOrder (clauses_at pool new)
  order_gained new new_is =
      let f : ℕ → List ℕ = clause_at pool in
      let split : clauses_at pool ids ≡ map f (take place ids) ++ map f (drop place ids) = ap (map f) (sym (take-append-drop place ids)) ∙ map-append f (take place ids) (drop place ids) in
      let parts : InOrder (map f (take place ids)) × InOrder (map f (drop place ids)) = order_front (map f (take place ids)) (map f (drop place ids)) (subst InOrder split order) in
      let after : (d : List ℕ) → In d (map f (drop place ids)) → Before (f id) d = λ d i.
      let w : (x : ℕ) × In x (drop place ids) × (d ≡ f x) = In_map_cases f (drop place ids) d i in
      let p : (k : ℕ) × (place ≤ k) × (k < length ids) × (get_or ids k 0 ≡ w.0) = left_place ids place w.0 w.1 in
      subst (λ z. Before (f id) z) (ap f p.3 ∙ sym w.2) (comes_after p.0 p.1 p.2) in
      let front : (c : List ℕ) → In c (map f (take place ids)) → Before c (f id) = λ c i.
      let w : (x : ℕ) × In x (take place ids) × (c ≡ f x) = In_map_cases f (take place ids) c i in
      let p : (k : ℕ) × (k < place) × (k < length ids) × (get_or ids k 0 ≡ w.0) = taken_place ids place w.0 w.1 in
      subst (λ z. Before z (f id)) (ap f p.3 ∙ sym w.2) (before_test (f (get_or ids p.0 0)) (f id) (before p.0 p.1)) in
      subst InOrder (sym (ap (map f) new_is ∙ map-append f (take place ids) (id ∷ drop place ids)))
      (order_append (map f (take place ids)) (f id ∷ map f (drop place ids)) parts.0 (after, parts.1)
      (λ x y i j. elim (In_cases j) [
        | inl e ↦ subst (λ z. Before x z) (sym e) (front x i)
        | inr r ↦ before_trans x (f id) y (front x i) (after y r)
      ]))
