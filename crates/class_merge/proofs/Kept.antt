-- Merging keeps every set, and is tidy.
use Rattle.std.proofs.Common.{◌≡◌, ℕ, ◌<◌, true, List, [], length, inl, inr, sym, ◌∙◌, ap, ap₂, subst, arith, map, ◌&&◌}
use Rattle.std.proofs.lemmas.Bool.{false_from_ne_true, false≢true}
use Rattle.row_book.specs.{Sets.{NumSet, Hit, Is}, Repository.{Repository, Healthy, against, clauses_of, conflicts_of}, Sound.{SoundRepository}}
use Rattle.row_book.specs.Merging.{firsts, first_of, classes, class_of, image, members, clause_image, class_clauses, class_conflicts, quotient}
use Rattle.listed.specs.Lists.{In, has, Ascending, Inside}
use Rattle.clause_pool.specs.{Lists.{InOrder}, Clauses.{apart_from, minimal_of}}
use Rattle.row_book.proofs.{Books.{in_listed}, Numbers.{at_numbers, length_numbers, numbers_ascending}, Repositories.{each_list, has_filter, symmetric}}
use Rattle.clause_pool.proofs.{Clauses.{apart_cases, apart_in, minimal_of_parts, minimal_below}, Order.{ordered_has, ordered_order, ordered_parts}}
use Rattle.listed.proofs.{Lists.{In_has, has_In, In_map, In_map_cases, decided_in, filter_cases}, Orders.{ascending_filter, ascending_same}}
use Rattle.class_merge.specs.Laws.{MergeKeeps, MergeLifts, MergeIsTidy}
use Rattle.class_merge.proofs.Classes.{class_alike, clause_image_ascending, clause_image_cases, clause_image_in, clause_image_within, has_class_lem, image_from}
use Rattle.class_merge.proofs.Classes.{image_parts, in_classes, members_from, members_parts, of_classes}

-- the merged repository
pub merged_size : (R : Repository) → length (quotient R).clauses ≡ length (firsts R)
unfolding quotient
merged_size R = length_numbers (class_clauses R) (length (firsts R)) 0

merged_count : (R : Repository) → length (quotient R).conflicts ≡ length (firsts R)
unfolding quotient
merged_count R = length_numbers (class_conflicts R) (length (firsts R)) 0

pub merged_clauses : (R : Repository) (k : ℕ) → k < length (firsts R) → clauses_of (quotient R) k ≡ class_clauses R k
unfolding quotient
merged_clauses R k l = at_numbers (class_clauses R) [] (length (firsts R)) 0 k l ∙ ap (class_clauses R) (omega arith)

pub merged_conflicts : (R : Repository) (k : ℕ) → k < length (firsts R) → conflicts_of (quotient R) k ≡ class_conflicts R k
unfolding quotient
merged_conflicts R k l = at_numbers (class_conflicts R) [] (length (firsts R)) 0 k l ∙ ap (class_conflicts R) (omega arith)

pub merged_against : (R : Repository) (k l : ℕ) → k < length (firsts R) → l < length (firsts R) → against (quotient R) k l ≡ against R (first_of R k) (first_of R l)
merged_against R k l a b =
    ap (λ xs. has xs l) (merged_conflicts R k a)
    ∙ (has_filter (λ l. against R (first_of R k) (first_of R l)) (classes R) l
    ∙ ap (λ t. t && against R (first_of R k) (first_of R l)) (In_has (in_classes R l b)))

conflict_bounds : (R : Repository) (k l : ℕ) → against (quotient R) k l ≡ true → (k < length (firsts R)) × (l < length (firsts R))
conflict_bounds R k l t =
    let a : k < length (firsts R) = subst (λ n. k < n) (merged_count R) (in_listed (quotient R).conflicts k l (has_In (conflicts_of (quotient R) k) l t)) in
    let i : In l (class_conflicts R k) = subst (λ xs. In l xs) (merged_conflicts R k a) (has_In (conflicts_of (quotient R) k) l t) in
    (a, of_classes R l (filter_cases (λ l. against R (first_of R k) (first_of R l)) (classes R) l i).0)

pub merged_clause : (R : Repository) (k : ℕ) (d : List ℕ) → In d (clauses_of (quotient R) k) →
    (c : List ℕ) × In c (clauses_of R (first_of R k)) × (d ≡ clause_image R c) × (In k d → ⊥)
merged_clause R k d i =
    let l : k < length (firsts R) = subst (λ n. k < n) (merged_size R) (in_listed (quotient R).clauses k d i) in
    let images : List (List ℕ) = map (clause_image R) (clauses_of R (first_of R k)) in
    let a : In d (apart_from k images) = (minimal_of_parts (apart_from k images) d (ordered_parts (minimal_of (apart_from k images)) d (subst (λ r. In d r) (merged_clauses R k l) i))).0 in
    let b : In d images × (In k d → ⊥) = apart_cases k images d a in
    let w : (c : List ℕ) × In c (clauses_of R (first_of R k)) × (d ≡ clause_image R c) = In_map_cases (clause_image R) (clauses_of R (first_of R k)) d b.0 in
    (w.0, w.1, w.2, b.1)

-- a clause whose image does not hold the class has a clause of the class in its image
clause_merged : (R : Repository) (k : ℕ) (c : List ℕ) → k < length (firsts R) → In c (clauses_of R (first_of R k)) → (In k (clause_image R c) → ⊥) →
    (d : List ℕ) × In d (clauses_of (quotient R) k) × Inside d (clause_image R c)
clause_merged R k c l i f =
    let images : List (List ℕ) = map (clause_image R) (clauses_of R (first_of R k)) in
    let w : (d : List ℕ) × In d (minimal_of (apart_from k images)) × Inside d (clause_image R c) =
    minimal_below (apart_from k images) (clause_image R c) (apart_in k images (clause_image R c) (In_map (clause_image R) (clauses_of R (first_of R k)) c i) f) in
    (w.0, subst (λ r. In w.0 r) (sym (merged_clauses R k l)) (ordered_has (minimal_of (apart_from k images)) w.0 w.1), w.2)

conflicting_same : (R : Repository) → SoundRepository R → (p q : ℕ) → p < length R.clauses → q < length R.clauses → against R p q ≡ against (quotient R) (class_of R p) (class_of R q)
conflicting_same R s p q l m =
    let f : ℕ = first_of R (class_of R p) in
    let g : ℕ = first_of R (class_of R q) in
    ap (λ xs. has xs q) (class_alike R p l).conflicts
    ∙ (symmetric R s f q
    ∙ (ap (λ xs. has xs f) (class_alike R q m).conflicts
    ∙ (symmetric R s g f ∙ sym (merged_against R (class_of R p) (class_of R q) (has_class_lem R p l).within (has_class_lem R q m).within))))

down : (R : Repository) (I : NumSet) → SoundRepository R → Healthy R I → Healthy (quotient R) (image R I)
down R I s h = record {
  packages = λ k i.
      let w : (p : ℕ) × (p < length R.clauses) × Is I p × (class_of R p ≡ k) = image_parts R I k i in
      subst (λ n. k < n) (sym (merged_size R)) (subst (λ n. n < length (firsts R)) w.3 (has_class_lem R w.0 w.1).within);
  abundance = λ k i d j.
      let w : (p : ℕ) × (p < length R.clauses) × Is I p × (class_of R p ≡ k) = image_parts R I k i in
      let v : (c : List ℕ) × In c (clauses_of R (first_of R k)) × (d ≡ clause_image R c) × (In k d → ⊥) = merged_clause R k d j in
      let rows : clauses_of R w.0 ≡ clauses_of R (first_of R k) = (class_alike R w.0 w.1).clauses ∙ ap (λ n. clauses_of R (first_of R n)) w.3 in
      let x : Hit (Is I) v.0 = h.abundance w.0 w.2 v.0 (subst (λ r. In v.0 r) (sym rows) v.1) in
      let small : x.by < length R.clauses = h.packages x.by x.alive in
      record {
        by = class_of R x.by;
        inside = subst (λ c. In (class_of R x.by) c) (sym v.2) (clause_image_in R v.0 x.by small x.inside);
        alive = image_from R I x.by small x.alive;
      };
  peace = λ k l i j.
      let w : (p : ℕ) × (p < length R.clauses) × Is I p × (class_of R p ≡ k) = image_parts R I k i in
      let v : (p : ℕ) × (p < length R.clauses) × Is I p × (class_of R p ≡ l) = image_parts R I l j in
      ap₂ (λ a b. against (quotient R) a b) (sym w.3) (sym v.3) ∙ (sym (conflicting_same R s w.0 v.0 w.1 v.1) ∙ h.peace w.0 v.0 w.2 v.2);
}

pub merge_lifts_lem : MergeLifts
merge_lifts_lem R K s h = record {
  packages = λ p i. (members_parts R K p i).0;
  abundance = λ p i c j.
      let w : (p < length R.clauses) × Is K (class_of R p) = members_parts R K p i in
      let k : ℕ = class_of R p in
      let hit : (l : ℕ) → In l (clause_image R c) → Is K l → Hit (Is (members R K)) c = λ l u y.
      let n : (n : ℕ) × (n < length R.clauses) × In n c × (class_of R n ≡ l) = clause_image_cases R c l u in
      record { by = n.0; inside = n.2; alive = members_from R K n.0 n.1 (subst (λ z. Is K z) (sym n.3) y) } in
      elim (decided_in k (clause_image R c)) [
        | inl u ↦ hit k u w.1
        | inr f ↦
            let d : (d : List ℕ) × In d (clauses_of (quotient R) k) × Inside d (clause_image R c) =
            clause_merged R k c (has_class_lem R p w.0).within (subst (λ r. In c r) (class_alike R p w.0).clauses j) f in
            let x : Hit (Is K) d.0 = h.abundance k w.1 d.0 d.1 in
            hit x.by (d.2 x.by x.inside) x.alive
      ];
  peace = λ p q i j.
      let w : (p < length R.clauses) × Is K (class_of R p) = members_parts R K p i in
      let v : (q < length R.clauses) × Is K (class_of R q) = members_parts R K q j in
      conflicting_same R s p q w.0 v.0 ∙ h.peace (class_of R p) (class_of R q) w.1 v.1;
}

pub merge_keeps_lem : MergeKeeps
merge_keeps_lem R S s small = (
  (λ h. record {
    whole = image R h.whole;
    healthy = down R h.whole s h.healthy;
    contains = λ k i.
        let w : (p : ℕ) × (p < length R.clauses) × Is S p × (class_of R p ≡ k) = image_parts R S k i in
        subst (λ n. Is (image R h.whole) n) w.3 (image_from R h.whole w.0 w.1 (h.contains w.0 w.2));
  }),
  (λ h. record {
    whole = members R h.whole;
    healthy = merge_lifts_lem R h.whole s h.healthy;
    contains = λ p i. members_from R h.whole p (small p i) (h.contains (class_of R p) (image_from R S p (small p i) i));
  }),
)

merged_symmetric : (R : Repository) → SoundRepository R → (k l : ℕ) → against (quotient R) k l ≡ true → against (quotient R) l k ≡ true
merged_symmetric R s k l t =
    let w : (k < length (firsts R)) × (l < length (firsts R)) = conflict_bounds R k l t in
    merged_against R l k w.1 w.0 ∙ (symmetric R s (first_of R l) (first_of R k) ∙ (sym (merged_against R k l w.0 w.1) ∙ t))

pub merge_is_tidy_lem : MergeIsTidy
merge_is_tidy_lem R s = record {
  sound = record {
    clauses = λ k d i.
        let v : (c : List ℕ) × In c (clauses_of R (first_of R k)) × (d ≡ clause_image R c) × (In k d → ⊥) = merged_clause R k d i in (
          subst (λ c. Ascending c) (sym v.2) (clause_image_ascending R v.0),
          λ l j. subst (λ z. l < z) (sym (merged_size R)) (clause_image_within R v.0 l (subst (λ c. In l c) v.2 j)),
        );
    count = merged_count R ∙ sym (merged_size R);
    conflicts = record {
      ascending = each_list Ascending (quotient R).conflicts tt (λ k l.
          let m : k < length (firsts R) = subst (λ n. k < n) (merged_count R) l in
          subst Ascending (sym (merged_conflicts R k m)) (ascending_filter (λ l. against R (first_of R k) (first_of R l)) (classes R) (numbers_ascending (length (firsts R)) 0)));
      either_way = merged_symmetric R s;
      apart = λ k. false_from_ne_true (against (quotient R) k k) (λ t.
          let w : (k < length (firsts R)) × (k < length (firsts R)) = conflict_bounds R k k t in
          false≢true (sym (s.conflicts.apart (first_of R k)) ∙ (sym (merged_against R k k w.0 w.1) ∙ t)));
    };
  };
  apart = λ k d i j. (merged_clause R k d i).3 j;
  minimal = λ k c d i j f.
      let a : (c0 : List ℕ) × In c0 (clauses_of R (first_of R k)) × (c ≡ clause_image R c0) × (In k c → ⊥) = merged_clause R k c i in
      let b : (d0 : List ℕ) × In d0 (clauses_of R (first_of R k)) × (d ≡ clause_image R d0) × (In k d → ⊥) = merged_clause R k d j in
      let l : k < length (firsts R) = subst (λ n. k < n) (merged_size R) (in_listed (quotient R).clauses k d j) in
      let images : List (List ℕ) = map (clause_image R) (clauses_of R (first_of R k)) in
      let of : (x : List ℕ) → In x (clauses_of (quotient R) k) → In x (minimal_of (apart_from k images)) =
      λ x u. ordered_parts (minimal_of (apart_from k images)) x (subst (λ r. In x r) (merged_clauses R k l) u) in
      ascending_same c d (subst (λ z. Ascending z) (sym a.2) (clause_image_ascending R a.0)) (subst (λ z. Ascending z) (sym b.2) (clause_image_ascending R b.0)) f
      ((minimal_of_parts (apart_from k images) d (of d j)).1 c (minimal_of_parts (apart_from k images) c (of c i)).0 f);
}

pub merged_order : (R : Repository) (k : ℕ) → InOrder (clauses_of (quotient R) k)
merged_order R = each_list InOrder (quotient R).clauses tt (λ k l.
    let m : k < length (firsts R) = subst (λ n. k < n) (merged_size R) l in
    subst InOrder (sym (merged_clauses R k m)) (ordered_order (minimal_of (apart_from k (map (clause_image R) (clauses_of R (first_of R k)))))))
