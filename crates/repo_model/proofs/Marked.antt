-- The elements of packages by their marks.
use Rattle.std.proofs.Common.{◌≡◌, ℕ, suc, ◌+◌, ◌<◌, ◌≤◌, ◌++◌, List, [], ◌∷◌, length, get_or, map, take, drop, inl, inr, refl, sym, ap, ap₂, subst, ◌∙◌}
use Rattle.std.proofs.{Common.{add-one, length-append, drop-cons, arith}, lemmas.List.{drop-map, get_or-map, length-map, map-append, take-map}}
use Rattle.std.proofs.Math.Seq.{drop-append_seam, take-append_seam}
use Rattle.std.specs.List.{flat_map}
use Rattle.clause_pool.specs.{Interned.{Interned, clause_at, clauses_at}, Lists.{InOrder}}
use Rattle.listed.proofs.Lists.{has_In, In_map, In_place}
use Rattle.relation_fields.specs.Shared.{marked, AreMarked}
use Rattle.listed.specs.Lists.{In, here, there}
use Rattle.repo_model.specs.{Interning.{HasIds}, Ranks.{clause_marked, clauses_marked, ids_of_ranks, AreRanked, IsRanking}, declared.ranks.Ranks.{Ranks}}

-- each list has a mark
pub each_marked : {A : Type 0} (distinct : List (List A)) (marks : List ℕ) → AreMarked distinct marks → (x : List A) → In x distinct → In x (marked distinct marks)
each_marked distinct marks are x i =
    let w : (k : ℕ) × (k < length distinct) × (get_or distinct k [] ≡ x) = In_place distinct x [] i in
    subst (λ z. In z (marked distinct marks)) w.2 (In_map (λ mark. get_or distinct mark []) marks w.0 (has_In marks w.0 (are.each w.0 w.1)))

pub marks_within : {A : Type 0} (distinct : List (List A)) (marks : List ℕ) → AreMarked distinct marks → (mark : ℕ) → In mark marks → mark < length distinct
marks_within distinct marks are mark i =
    let w : (k : ℕ) × (k < length marks) × (get_or marks k 0 ≡ mark) = In_place marks mark 0 i in
    subst (λ z. z < length distinct) w.2 (are.within w.0 w.1)

-- a ranking depends on the clauses of the pool alone
pub ranking_stays : (old new : Interned) (made : Ranks) → new.clauses ≡ old.clauses → IsRanking old made → IsRanking new made
ranking_stays old new made same is = record {
  in_order = subst (λ cs. InOrder (map (λ id. get_or cs id []) made.order.items)) (sym same) is.in_order;
  of_pool = λ id i. subst (λ cs. id < length cs) (sym same) (is.of_pool id i);
  within = is.within;
}

-- the clause of a mark is that of its element
module _ {A : Type 0} (f : List A → List ℕ) (start pool : Interned) (distinct : List (List A)) (ids : List ℕ) (made : Ranks) (h : HasIds start pool (map f distinct) ids) (r : AreRanked pool ids made) where
  count : length made.ranks.items ≡ length distinct
  count =
      sym (length-map made.ranks.items (λ rank. get_or made.order.items rank 0)) ∙ ap length r.each ∙ sym (length-map ids (clause_at pool)) ∙ ap length h.clauses ∙ length-map distinct f

  pub ranks_counted : (mark : ℕ) → mark < length distinct → mark < length made.ranks.items
  ranks_counted mark l = subst (λ n. mark < n) (sym count) l

  clause_found : (mark : ℕ) → mark < length distinct → clause_marked pool made mark ≡ f (get_or distinct mark [])
  clause_found mark l =
      let m : mark < length made.ranks.items = ranks_counted mark l in
      let n : mark < length ids = subst (λ xs. mark < length xs) r.each (subst (λ k. mark < k) (sym (length-map made.ranks.items (λ rank. get_or made.order.items rank 0))) m) in
      let id : get_or made.order.items (get_or made.ranks.items mark 0) 0 ≡ get_or ids mark 0 =
      sym (get_or-map (λ rank. get_or made.order.items rank 0) made.ranks.items mark 0 0 m) ∙ ap (λ xs. get_or xs mark 0) r.each in
      ap (clause_at pool) id ∙ sym (get_or-map (clause_at pool) ids mark 0 [] n) ∙ ap (λ xs. get_or xs mark []) h.clauses ∙ get_or-map f distinct mark [] [] l

  pub clauses_found : (marks : List ℕ) → ((mark : ℕ) → In mark marks → mark < length distinct) → clauses_marked pool made marks ≡ map f (marked distinct marks)
  clauses_found [] w = refl
  clauses_found (mark ∷ marks) w = ap₂ (λ c cs. c ∷ cs) (clause_found mark (w mark here)) (clauses_found marks (λ other i. w other (there i)))

  -- the same in a pool with the same clauses, for the marks of these elements
  pub clauses_of_marks : (later : Interned) (marks : List ℕ) (elements : List (List A)) → later.clauses ≡ pool.clauses → ((mark : ℕ) → In mark marks → mark < length distinct) →
      marked distinct marks ≡ elements → clauses_marked later made marks ≡ map f elements
  clauses_of_marks later marks elements same w are =
      ap (λ cs. map (λ mark. get_or cs (get_or made.order.items (get_or made.ranks.items mark 0) 0) []) marks) same ∙ clauses_found marks w ∙ ap (map f) are

-- the marks of the next package are in front of those that are left
module _ {X A : Type 0} (needs : X → List (List A)) (xs : List X) (i : ℕ) (x : X) (distinct : List (List A)) (left : List ℕ) (within : i < length xs) (is : x ≡ get_or xs i x)
    (are : marked distinct left ≡ flat_map needs (drop i xs)) where
  split : marked distinct left ≡ needs x ++ flat_map needs (drop (i + 1) xs)
  split =
      are ∙ ap (flat_map needs) (drop-cons xs i x within) ∙ ap (λ y. needs y ++ flat_map needs (drop (suc i) xs)) (sym is) ∙ ap (λ n. needs x ++ flat_map needs (drop n xs)) (sym (add-one i))

  pub own_fits : length (needs x) ≤ length left
  own_fits =
      let e : length left ≡ length (needs x) + length (flat_map needs (drop (i + 1) xs)) = sym (length-map left (λ mark. get_or distinct mark [])) ∙ ap length split ∙ length-append (needs x) (flat_map needs (drop (i + 1) xs)) in
      omega arith

  pub own_marked : marked distinct (take (length (needs x)) left) ≡ needs x
  own_marked = sym (take-map (λ mark. get_or distinct mark []) (length (needs x)) left) ∙ ap (take (length (needs x))) split ∙ take-append_seam (needs x) (flat_map needs (drop (i + 1) xs))

  pub rest_marked : marked distinct (drop (length (needs x)) left) ≡ flat_map needs (drop (i + 1) xs)
  rest_marked = sym (drop-map (λ mark. get_or distinct mark []) (length (needs x)) left) ∙ ap (drop (length (needs x))) split ∙ drop-append_seam (needs x) (flat_map needs (drop (i + 1) xs))
