-- The row of a package over a set is local: among packages that name none but each other it is the same in each repository
-- that they stand in.
use Rattle.std.proofs.Common.{◌≡◌, ℕ, ◌<◌, true, false, ◌&&◌, eqb, List, [], ◌∷◌, length, map, inl, inr, refl, sym, ◌∙◌, ap, subst, arith, eq-eqb, eqb-true}
use Rattle.std.proofs.{Common.{zero-le}, lemmas.Bool.{and_parts, and_from, cases_eq, cases_lt}, lemmas.List.{length-map}}
use Rattle.std.specs.List.{list_any}
use Rattle.listed.specs.Lists.{In, here, there, has, Ascending, Inside}
use Rattle.listed.proofs.{Lists.{In_has, has_In, In_map, In_map_cases, any_cases, any_from}, Orders.{ascending_same}}
use Rattle.row_book.specs.{Sets.{Hit, Is, NumSet, minus}, Repository.{Repository, Satisfied, clauses_of}, Numbers.{numbers}}
use Rattle.row_book.specs.{Support.{Alive, Blocks, IsRow, MinimalBlock, Support, row}, Sound.{OfPackages}, Flattening.{row_length}}
use Rattle.row_book.proofs.Lists.{members_from, members_from_ascending, members_from_from, members_from_parts, minus_from, minus_parts}
use Rattle.row_book.proofs.{Numbers.{numbers_from}, Parts.{order_there}}
use Rattle.clause_flatten.specs.Locality.{StandsIn}
use Rattle.clause_flatten.proofs.{Rows.{row_is}, Tables.{row_is_one_lem, row_order}}

module _ (R : Repository) (U : NumSet) (to : ℕ → ℕ) (other : Repository) (is : StandsIn R U to other) where
  size : ℕ
  size = length R.clauses

  -- no two packages of U have the same number there
  pub to_one : (m n : ℕ) → U m ≡ true → U n ≡ true → to m ≡ to n → m ≡ n
  to_one m n u v e =
      elim (cases_eq m n) [
        | inl same ↦ same
        | inr ne ↦ elim (cases_lt m n) [
          | inl l ↦ let up : to m < to n = is.rising m n u v l in absurd (omega (arith, e))
          | inr g ↦ let up : to n < to m = is.rising n m v u (omega (arith, ne)) in absurd (omega (arith, e))
        ]
      ]

  -- a list of packages of U ascends there if it ascends
  ascends_there : (T : List ℕ) → ((n : ℕ) → In n T → U n ≡ true) → Ascending T → Ascending (map to T)
  ascends_there [] f a = tt
  ascends_there (x ∷ xs) f a = (
    (λ y i. let w : (n : ℕ) × In n xs × (y ≡ to n) = In_map_cases to xs y i in
        subst (λ z. to x < z) (sym w.2) (is.rising x w.0 (f x here) (f w.0 (there w.1)) (a.0 w.0 w.1))),
    ascends_there xs (λ n i. f n (there i)) a.1,
  )

  -- the numbers there of helpers that are in U
  helpers_there : NumSet → NumSet
  helpers_there H m = list_any (λ n. U n && (H n && eqb (to n) m)) (numbers size 0)

  helpers_from : (H : NumSet) (n : ℕ) → U n ≡ true → Is H n → Is (helpers_there H) (to n)
  unfolding helpers_there size
  helpers_from H n u h =
      any_from (λ k. U k && (H k && eqb (to k) (to n))) (numbers size 0) n
      (numbers_from size 0 n zero-le (let l : n < length R.clauses = is.packages n u in omega arith))
      (and_from (U n) (H n && eqb (to n) (to n)) u (and_from (H n) (eqb (to n) (to n)) h (eq-eqb (to n) (to n) refl)))

  helpers_parts : (H : NumSet) (m : ℕ) → Is (helpers_there H) m → (n : ℕ) × (U n ≡ true) × Is H n × (to n ≡ m)
  unfolding helpers_there size
  helpers_parts H m h =
      let w : (n : ℕ) × In n (numbers size 0) × ((U n && (H n && eqb (to n) m)) ≡ true) = any_cases (λ n. U n && (H n && eqb (to n) m)) (numbers size 0) h in
      let a : (U w.0 ≡ true) × ((H w.0 && eqb (to w.0) m) ≡ true) = and_parts (U w.0) (H w.0 && eqb (to w.0) m) w.2 in
      let b : (H w.0 ≡ true) × (eqb (to w.0) m ≡ true) = and_parts (H w.0) (eqb (to w.0) m) a.1 in
      (w.0, a.0, b.0, eqb-true (to w.0) m b.1)

  -- the packages of U that are helpers there
  helpers_back : NumSet → NumSet
  helpers_back K n = U n && K (to n)

  back_from : (K : NumSet) (n : ℕ) → U n ≡ true → Is K (to n) → Is (helpers_back K) n
  unfolding helpers_back
  back_from K n u h = and_from (U n) (K (to n)) u h

  back_parts : (K : NumSet) (n : ℕ) → Is (helpers_back K) n → (U n ≡ true) × Is K (to n)
  unfolding helpers_back
  back_parts K n h = and_parts (U n) (K (to n)) h

  -- the members of a list that are in U
  ours_of : List ℕ → List ℕ
  ours_of T = members_from (λ n. U n && has T n) size 0

  ours_parts : (T : List ℕ) (n : ℕ) → In n (ours_of T) → (U n ≡ true) × In n T
  unfolding ours_of
  ours_parts T n i =
      let w : (U n ≡ true) × (has T n ≡ true) = and_parts (U n) (has T n) (members_from_parts (λ k. U k && has T k) size 0 n i).0 in
      (w.0, has_In T n w.1)

  ours_has : (T : List ℕ) (n : ℕ) → U n ≡ true → In n T → In n (ours_of T)
  unfolding ours_of size
  ours_has T n u i =
      members_from_from (λ k. U k && has T k) size 0 n (and_from (U n) (has T n) u (In_has i)) zero-le
      (let l : n < length R.clauses = is.packages n u in omega arith)

  -- the packages of U whose numbers there are in a list
  seen_from : List ℕ → List ℕ
  seen_from D = members_from (λ n. U n && has D (to n)) size 0

  seen_parts : (D : List ℕ) (n : ℕ) → In n (seen_from D) → (U n ≡ true) × In (to n) D
  unfolding seen_from
  seen_parts D n i =
      let w : (U n ≡ true) × (has D (to n) ≡ true) = and_parts (U n) (has D (to n)) (members_from_parts (λ k. U k && has D (to k)) size 0 n i).0 in
      (w.0, has_In D (to n) w.1)

  seen_has : (D : List ℕ) (n : ℕ) → U n ≡ true → In (to n) D → In n (seen_from D)
  unfolding seen_from size
  seen_has D n u i =
      members_from_from (λ k. U k && has D (to k)) size 0 n (and_from (U n) (has D (to n)) u (In_has i)) zero-le
      (let l : n < length R.clauses = is.packages n u in omega arith)

  seen_ascends : (D : List ℕ) → Ascending (seen_from D)
  unfolding seen_from
  seen_ascends D = members_from_ascending (λ k. U k && has D (to k)) size 0

  module _ (V W : NumSet) (same : (n : ℕ) → U n ≡ true → W (to n) ≡ V n) where
    -- support is the same there
    support_there : (p : ℕ) (X Y : NumSet) → U p ≡ true → ((n : ℕ) → U n ≡ true → Is X n → Is Y (to n)) → Support R V p X → Support other W (to p) Y
    support_there p X Y p_in more s = record {
      helpers = helpers_there s.helpers;
      packages = λ m j. let w : (n : ℕ) × (U n ≡ true) × Is s.helpers n × (to n ≡ m) = helpers_parts s.helpers m j in
          subst (λ z. z < length other.clauses) w.3 (is.within w.0 w.1);
      outside = λ m j. let w : (n : ℕ) × (U n ≡ true) × Is s.helpers n × (to n ≡ m) = helpers_parts s.helpers m j in
          subst (λ z. W z ≡ false) w.3 (same w.0 w.1 ∙ s.outside w.0 w.2);
      own = met p p_in s.own;
      others = λ m j. let w : (n : ℕ) × (U n ≡ true) × Is s.helpers n × (to n ≡ m) = helpers_parts s.helpers m j in
          subst (λ z. Satisfied other (Alive Y (helpers_there s.helpers) (to p)) z) w.3 (met w.0 w.1 (s.others w.0 w.2));
    }
      where
        live : (n : ℕ) → U n ≡ true → Alive X s.helpers p n → Alive Y (helpers_there s.helpers) (to p) (to n)
        live n u (inl x) = inl (more n u x)
        live n u (inr (inl h)) = inr (inl (helpers_from s.helpers n u h))
        live n u (inr (inr e)) = inr (inr (ap to e))

        met : (r : ℕ) → U r ≡ true → Satisfied R (Alive X s.helpers p) r → Satisfied other (Alive Y (helpers_there s.helpers) (to p)) (to r)
        met r u f c i =
            let w : (d : List ℕ) × In d (clauses_of R r) × (c ≡ map to d) = In_map_cases (map to) (clauses_of R r) c (subst (λ z. In c z) (is.clauses r u) i) in
            let h : Hit (Alive X s.helpers p) w.0 = f w.0 w.1 in
            record {
              by = to h.by;
              inside = subst (λ z. In (to h.by) z) (sym w.2) (In_map to w.0 h.by h.inside);
              alive = live h.by (is.closed r u w.0 w.1 h.by h.inside) h.alive;
            }

    support_back : (p : ℕ) (X Y : NumSet) → U p ≡ true → ((n : ℕ) → U n ≡ true → Is Y (to n) → Is X n) → Support other W (to p) Y → Support R V p X
    support_back p X Y p_in more s = record {
      helpers = helpers_back s.helpers;
      packages = λ n j. is.packages n (back_parts s.helpers n j).0;
      outside = λ n j. let w : (U n ≡ true) × Is s.helpers (to n) = back_parts s.helpers n j in sym (same n w.0) ∙ s.outside (to n) w.1;
      own = met p p_in s.own;
      others = λ n j. let w : (U n ≡ true) × Is s.helpers (to n) = back_parts s.helpers n j in met n w.0 (s.others (to n) w.1);
    }
      where
        live : (n : ℕ) → U n ≡ true → Alive Y s.helpers (to p) (to n) → Alive X (helpers_back s.helpers) p n
        live n u (inl y) = inl (more n u y)
        live n u (inr (inl h)) = inr (inl (back_from s.helpers n u h))
        live n u (inr (inr e)) = inr (inr (to_one n p u p_in e))

        met : (r : ℕ) → U r ≡ true → Satisfied other (Alive Y s.helpers (to p)) (to r) → Satisfied R (Alive X (helpers_back s.helpers) p) r
        met r u f c i =
            let h : Hit (Alive Y s.helpers (to p)) (map to c) = f (map to c) (subst (λ z. In (map to c) z) (sym (is.clauses r u)) (In_map (map to) (clauses_of R r) c i)) in
            let w : (n : ℕ) × In n c × (h.by ≡ to n) = In_map_cases to c h.by h.inside in
            record {
              by = w.0;
              inside = w.1;
              alive = live w.0 (is.closed r u c i w.0 w.1) (subst (λ z. Alive Y s.helpers (to p) z) w.2 h.alive);
            }

    -- sets of packages of U block the same there
    blocks_there : (p : ℕ) (T : List ℕ) → U p ≡ true → ((n : ℕ) → In n T → U n ≡ true) → Blocks R V p T → Blocks other W (to p) (map to T)
    blocks_there p T p_in ours b = record {
      within = λ m i. let w : (n : ℕ) × In n T × (m ≡ to n) = In_map_cases to T m i in
          subst (λ z. Is W z) (sym w.2) (same w.0 (ours w.0 w.1) ∙ b.within w.0 w.1);
      apart = λ m i e. let w : (n : ℕ) × In n T × (m ≡ to n) = In_map_cases to T m i in
          b.apart w.0 w.1 (to_one w.0 p (ours w.0 w.1) p_in (sym w.2 ∙ e));
      fails = λ s. b.fails (support_back p (minus V T) (minus W (map to T)) p_in
          (λ n u h. let w : Is W (to n) × (In (to n) (map to T) → ⊥) = minus_parts W (map to T) (to n) h in
          minus_from V T n (sym (same n u) ∙ w.0) (λ i. w.1 (In_map to T n i))) s);
    }

    blocks_back : (p : ℕ) (D : List ℕ) → U p ≡ true → Blocks other W (to p) D → Blocks R V p (seen_from D)
    blocks_back p D p_in b = record {
      within = λ n i. let w : (U n ≡ true) × In (to n) D = seen_parts D n i in sym (same n w.0) ∙ b.within (to n) w.1;
      apart = λ n i e. b.apart (to n) (seen_parts D n i).1 (ap to e);
      fails = λ s. b.fails (support_there p (minus V (seen_from D)) (minus W D) p_in
          (λ n u h. let w : Is V n × (In n (seen_from D) → ⊥) = minus_parts V (seen_from D) n h in
          minus_from W D (to n) (same n u ∙ w.0) (λ i. w.1 (seen_has D n u i))) s);
    }

    -- a minimal blocking set of a package of U has packages of U alone
    pub minimal_ours : (p : ℕ) (T : List ℕ) → U p ≡ true → MinimalBlock R V p T → (n : ℕ) → In n T → U n ≡ true
    minimal_ours p T p_in m n i = (ours_parts T n (m.minimal (ours_of T) blocks (λ k j. (ours_parts T k j).1) n i)).0
      where
        blocks : Blocks R V p (ours_of T)
        blocks = record {
          within = λ k j. m.blocks.within k (ours_parts T k j).1;
          apart = λ k j. m.blocks.apart k (ours_parts T k j).1;
          fails = λ s. m.blocks.fails (support_back p (minus V T) (minus W (map to (ours_of T))) p_in
              (λ k u h. let w : Is W (to k) × (In (to k) (map to (ours_of T)) → ⊥) = minus_parts W (map to (ours_of T)) (to k) h in
              minus_from V T k (sym (same k u) ∙ w.0) (λ j. w.1 (In_map to (ours_of T) k (ours_has T k u j))))
              (support_there p (minus V (ours_of T)) (minus W (map to (ours_of T))) p_in
              (λ k u h. let w : Is V k × (In k (ours_of T) → ⊥) = minus_parts V (ours_of T) k h in
              minus_from W (map to (ours_of T)) (to k) (same k u ∙ w.0)
              (λ j. let v : (l : ℕ) × In l (ours_of T) × (to k ≡ to l) = In_map_cases to (ours_of T) (to k) j in
              w.1 (subst (λ z. In z (ours_of T)) (sym (to_one k v.0 u (ours_parts T v.0 v.1).0 v.2)) v.1))) s));
        }

    -- minimal blocking sets are the same there
    minimal_there : (p : ℕ) (T : List ℕ) → U p ≡ true → MinimalBlock R V p T → MinimalBlock other W (to p) (map to T)
    minimal_there p T p_in m = record {
      ascending = ascends_there T ours m.ascending;
      blocks = blocks_there p T p_in ours m.blocks;
      minimal = λ D b f y i.
          let w : (n : ℕ) × In n T × (y ≡ to n) = In_map_cases to T y i in
          let inside : Inside (seen_from D) T = λ n j.
          (let u : (U n ≡ true) × In (to n) D = seen_parts D n j in
          let v : (k : ℕ) × In k T × (to n ≡ to k) = In_map_cases to T (to n) (f (to n) u.1) in
          subst (λ z. In z T) (sym (to_one n v.0 u.0 (ours v.0 v.1) v.2)) v.1) in
          subst (λ z. In z D) (sym w.2) (seen_parts D w.0 (m.minimal (seen_from D) (blocks_back p D p_in b) inside w.0 w.1)).1;
    }
      where
        ours : (n : ℕ) → In n T → U n ≡ true
        ours = minimal_ours p T p_in m

    minimal_back : (p : ℕ) (D : List ℕ) → U p ≡ true → MinimalBlock other W (to p) D → MinimalBlock R V p (seen_from D) × (D ≡ map to (seen_from D))
    minimal_back p D p_in m = (
      record {
        ascending = seen_ascends D;
        blocks = back;
        minimal = λ S b f n i.
            let ours : (k : ℕ) → In k S → U k ≡ true = λ k j. (seen_parts D k (f k j)).0 in
            let u : (U n ≡ true) × In (to n) D = seen_parts D n i in
            let there_in : Inside (map to S) D = λ y j.
            (let w : (k : ℕ) × In k S × (y ≡ to k) = In_map_cases to S y j in
            subst (λ z. In z D) (sym w.2) (seen_parts D w.0 (f w.0 w.1)).1) in
            let v : (k : ℕ) × In k S × (to n ≡ to k) = In_map_cases to S (to n) (m.minimal (map to S) (blocks_there p S p_in ours b) there_in (to n) u.1) in
            subst (λ z. In z S) (sym (to_one n v.0 u.0 (ours v.0 v.1) v.2)) v.1;
      },
      ascending_same D (map to (seen_from D)) m.ascending (ascends_there (seen_from D) ours_seen (seen_ascends D))
          (m.minimal (map to (seen_from D)) (blocks_there p (seen_from D) p_in ours_seen back) seen_in) seen_in,
    )
      where
        back : Blocks R V p (seen_from D)
        back = blocks_back p D p_in m.blocks

        ours_seen : (n : ℕ) → In n (seen_from D) → U n ≡ true
        ours_seen n i = (seen_parts D n i).0

        seen_in : Inside (map to (seen_from D)) D
        seen_in y i =
            let w : (n : ℕ) × In n (seen_from D) × (y ≡ to n) = In_map_cases to (seen_from D) y i in
            subst (λ z. In z D) (sym w.2) (seen_parts D w.0 w.1).1

    -- so are rows
    is_row_there : (p : ℕ) (rows : List (List ℕ)) → U p ≡ true → IsRow R V p rows → IsRow other W (to p) (map (map to) rows)
    is_row_there p rows p_in r = record {
      sound = λ D i. let w : (T : List ℕ) × In T rows × (D ≡ map to T) = In_map_cases (map to) rows D i in
          subst (λ z. MinimalBlock other W (to p) z) (sym w.2) (minimal_there p w.0 p_in (r.sound w.0 w.1));
      whole = λ D m. let w : MinimalBlock R V p (seen_from D) × (D ≡ map to (seen_from D)) = minimal_back p D p_in m in
          subst (λ z. In z (map (map to) rows)) (sym w.1) (In_map (map to) rows (seen_from D) (r.whole (seen_from D) w.0));
    }

-- the row of a package is the same there
pub row_is_local : (R : Repository) (U : NumSet) (to : ℕ → ℕ) (other : Repository) → StandsIn R U to other →
    (V W : NumSet) → OfPackages R V → OfPackages other W → ((n : ℕ) → U n ≡ true → W (to n) ≡ V n) →
    (p : ℕ) → U p ≡ true → row other W (to p) ≡ map (map to) (row R V p)
row_is_local R U to other is V W v_in w_in same p p_in =
    let r : IsRow R V p (row R V p) = row_is R V p v_in in
    sym (row_is_one_lem other W (to p) (map (map to) (row R V p)) w_in
    (is_row_there R U to other is V W same p (row R V p) p_in r)
    (order_there U to is.rising (row R V p) (λ T i. minimal_ours R U to other is V W same p T p_in (r.sound T i)) (row_order R V p)))

-- and has as many clauses
pub length_is_local : (R : Repository) (U : NumSet) (to : ℕ → ℕ) (other : Repository) → StandsIn R U to other →
    (V W : NumSet) → OfPackages R V → OfPackages other W → ((n : ℕ) → U n ≡ true → W (to n) ≡ V n) →
    (p : ℕ) → U p ≡ true → row_length other W (to p) ≡ row_length R V p
length_is_local R U to other is V W v_in w_in same p p_in =
    ap length (row_is_local R U to other is V W v_in w_in same p p_in) ∙ length-map (row R V p) (map to)
