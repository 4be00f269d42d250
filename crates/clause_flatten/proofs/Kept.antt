-- Each set stays co-installable or not.
use Rattle.std.proofs.Common.{◌≡◌, ℕ, [], slice_index_or, zero, suc, ◌<◌, Bool, true, false, not, ◌&&◌, ◌||◌, List, length, ◌⊎◌, inl, inr, refl, sym, subst}
use Rattle.std.proofs.Common.{arith}
use Rattle.std.proofs.lemmas.Bool.{both_ways, cases_Bool, cases_eq, and_parts, and_from, or_cases, or_left, or_right, not_from_false, not-true}
use Rattle.std.proofs.lemmas.Bool.{false_from_ne_true, false≢true, lt-ltb}
use Rattle.row_book.specs.{Sets.{Hit, HitsAll, Is, NumSet, Within, minus, plus, without}, Repository.{Healthy, Repository, Satisfied, against, clauses_of}}
use Rattle.row_book.specs.{Support.{Alive, Blocks, IsRow, MinimalBlock, Support}, Sound.{OfPackages}, Flattening.{all_packages, flat}}
use Rattle.listed.specs.Lists.{In, has}
use Rattle.clause_pool.specs.Clauses.{apart_from, minimal_of}
use Rattle.clause_flatten.specs.Laws.{FirstRows, FlattenedBy, HoldsConflicts, KeepsEverySet, OwnRowStays}
use Rattle.row_book.proofs.Sets.{Hit-mono, outside_less, outside_more, plus_new, plus_old, without_from, without_parts, hits_minimal}
use Rattle.row_book.proofs.Lists.{minus_from, minus_parts}
use Rattle.listed.proofs.Lists.{decided_in}
use Rattle.clause_pool.proofs.Clauses.{apart_cases, apart_in, minimal_of_parts}
use Rattle.clause_flatten.proofs.{Supports.{alive_map, support_grows_lem}, Decisions.{support_absorbs}}
use Rattle.clause_flatten.proofs.Blocking.{hit_from_support, row_from_hits, support_from_hits}

-- some number below n passes
any_below : ℕ → (ℕ → Bool) → Bool
any_below zero f = false
any_below (suc n) f = f n || any_below n f

any_below_from : (n : ℕ) (f : ℕ → Bool) (k : ℕ) → k < n → f k ≡ true → any_below n f ≡ true
unfolding any_below
any_below_from zero f k l h = absurd (omega arith)
any_below_from (suc n) f k l h =
    elim (cases_eq k n) [
      | inl e ↦ or_left (f n) (any_below n f) (subst (λ m. f m ≡ true) e h)
      | inr ne ↦ or_right (f n) (any_below n f) (any_below_from n f k (omega (arith, ne)) h)
    ]

any_below_cases : (n : ℕ) (f : ℕ → Bool) → any_below n f ≡ true → (k : ℕ) × (f k ≡ true)
unfolding any_below
any_below_cases zero f h = absurd (false≢true h)
any_below_cases (suc n) f h = elim (or_cases (f n) (any_below n f) h) [ inl a ↦ (n, a) | inr b ↦ any_below_cases n f b ]

inner : NumSet → NumSet → NumSet
inner I V n = I n && V n

outer : NumSet → NumSet → NumSet
outer I V n = I n && not (V n)

module _ (R : Repository) (V : NumSet) (F : Repository) (bound : OfPackages R V) (holds : HoldsConflicts R V) (flat : FlattenedBy R V F) where
  in_f : (n : ℕ) → n < length R.clauses → n < length F.clauses
  in_f n h = subst (λ k. n < k) (sym flat.size) h

  in_r : (n : ℕ) → n < length F.clauses → n < length R.clauses
  in_r n h = subst (λ k. n < k) flat.size h

  -- a healthy set supports each of its members
  own_support : (I : NumSet) → Healthy R I → (p : ℕ) → Is I p → Support R V p (inner I V)
  unfolding inner outer
  own_support I h p i =
      let split : (n : ℕ) → Is I n → Alive (inner I V) (outer I V) p n =
      λ n j. elim (cases_Bool (V n)) [
        | inl v ↦ inl (and_from (I n) (V n) j v)
        | inr f ↦ inr (inl (and_from (I n) (not (V n)) j (not_from_false (V n) f)))
      ] in
      record {
        helpers = outer I V;
        packages = λ n j. h.packages n (and_parts (I n) (not (V n)) j).0;
        outside = λ n j. not-true (V n) (and_parts (I n) (not (V n)) j).1;
        own = λ c j. Hit-mono split (h.abundance p i c j);
        others = λ n k c j. Hit-mono split (h.abundance n (and_parts (I n) (not (V n)) k).0 c j);
      }

  healthy_there : (I : NumSet) → Healthy R I → Healthy F I
  unfolding inner
  healthy_there I h = record {
    packages = λ n i. in_f n (h.packages n i);
    abundance = λ p i T j.
        let row : IsRow R V p (clauses_of F p) = flat.rows p (h.packages p i) in
        Hit-mono (λ n a. (and_parts (I n) (V n) a).0)
        (hit_from_support R V p (inner I V) (λ n a. (and_parts (I n) (V n) a).1) (own_support I h p i) T (row.sound T j).blocks);
    peace = λ m n a b. subst (λ g. has (slice_index_or g m []) n ≡ false) (sym flat.conflicts) (h.peace m n a b);
  }

  -- a set that is healthy with the rows has a support of each member
  support_back : (I : NumSet) → Healthy F I → (p : ℕ) → Is I p → Support R V p (inner I V)
  unfolding inner
  support_back I h p i =
      let row : IsRow R V p (clauses_of F p) = flat.rows p (in_r p (h.packages p i)) in
      support_from_hits R V p (length R.clauses) bound (clauses_of F p) row (inner I V)
      (λ T j. let hit : Hit (Is I) T = h.abundance p i T j in
      record { by = hit.by; inside = hit.inside; alive = and_from (I hit.by) (V hit.by) hit.alive ((row.sound T j).blocks.within hit.by hit.inside) })

  pick : (I : NumSet) (h : Healthy F I) (p : ℕ) → (Is I p) ⊎ (I p ≡ false) → NumSet
  pick I h p (inl i) = (support_back I h p i).helpers
  pick I h p (inr f) = λ n. false

  pub joined_supports : (I : NumSet) → Healthy F I → NumSet
  joined_supports I h n = I n || any_below (length R.clauses) (λ p. pick I h p (cases_Bool (I p)) n)

  pick_cases : (I : NumSet) (h : Healthy F I) (p n : ℕ) (d : (Is I p) ⊎ (I p ≡ false)) → Is (pick I h p d) n → (i : Is I p) × Is (support_back I h p i).helpers n
  unfolding pick
  pick_cases I h p n (inl i) j = (i, j)
  pick_cases I h p n (inr f) j = absurd (false≢true j)

  pub joined_old : (I : NumSet) (h : Healthy F I) (n : ℕ) → Is I n → Is (joined_supports I h) n
  unfolding joined_supports
  joined_old I h n i = or_left (I n) (any_below (length R.clauses) (λ p. pick I h p (cases_Bool (I p)) n)) i

  joined_new : (I : NumSet) (h : Healthy F I) (p n : ℕ) → Is I p → Is (pick I h p (cases_Bool (I p))) n → Is (joined_supports I h) n
  unfolding joined_supports
  joined_new I h p n i j =
      or_right (I n) (any_below (length R.clauses) (λ p. pick I h p (cases_Bool (I p)) n))
      (any_below_from (length R.clauses) (λ p. pick I h p (cases_Bool (I p)) n) p (in_r p (h.packages p i)) j)

  joined_cases_of : (I : NumSet) (h : Healthy F I) (n : ℕ) → Is (joined_supports I h) n →
      Is I n ⊎ ((p : ℕ) × Is I p × Is (pick I h p (cases_Bool (I p))) n)
  unfolding joined_supports
  joined_cases_of I h n j =
      elim (or_cases (I n) (any_below (length R.clauses) (λ p. pick I h p (cases_Bool (I p)) n)) j) [
        | inl a ↦ inl a
        | inr b ↦
            let w : (k : ℕ) × Is (pick I h k (cases_Bool (I k))) n = any_below_cases (length R.clauses) (λ p. pick I h p (cases_Bool (I p)) n) b in
            inr (w.0, (pick_cases I h w.0 n (cases_Bool (I w.0)) w.1).0, w.1)
      ]

  -- with the supports of a member, its clauses and those of its helpers are hit
  member_hit : (I : NumSet) (h : Healthy F I) (p : ℕ) (d : (Is I p) ⊎ (I p ≡ false)) (K : NumSet) → Is I p → Within I K → Within (pick I h p d) K →
      (n : ℕ) → (n ≡ p) ⊎ Is (pick I h p d) n → Satisfied R (Is K) n
  unfolding pick inner
  member_hit I h p (inl i) K j f g n e c k =
      let s : Support R V p (inner I V) = support_back I h p i in
      let more : (n : ℕ) → Alive (inner I V) s.helpers p n → Is K n =
      λ n a. elim a [ inl x ↦ f n (and_parts (I n) (V n) x).0 | inr (inl y) ↦ g n y | inr (inr z) ↦ subst (λ m. Is K m) (sym z) (f p i) ] in
      elim e [ inl same ↦ Hit-mono more (s.own c (subst (λ m. In c (clauses_of R m)) same k)) | inr help ↦ Hit-mono more (s.others n help c k) ]
  member_hit I h p (inr no_p) K j f g n e c k = absurd (both_ways (I p) no_p j)

  helper_out : (I : NumSet) (h : Healthy F I) (p n : ℕ) (d : (Is I p) ⊎ (I p ≡ false)) → Is (pick I h p d) n → V n ≡ false
  helper_out I h p n d j =
      let w : (i : Is I p) × Is (support_back I h p i).helpers n = pick_cases I h p n d j in (support_back I h p w.0).outside n w.1

  helper_in : (I : NumSet) (h : Healthy F I) (p n : ℕ) (d : (Is I p) ⊎ (I p ≡ false)) → Is (pick I h p d) n → n < length R.clauses
  helper_in I h p n d j =
      let w : (i : Is I p) × Is (support_back I h p i).helpers n = pick_cases I h p n d j in (support_back I h p w.0).packages n w.1

  pub in_set : (I : NumSet) (h : Healthy F I) (n : ℕ) → Is V n → Is (joined_supports I h) n → Is I n
  in_set I h n v j =
      elim (joined_cases_of I h n j) [ inl a ↦ a | inr w ↦ absurd (both_ways (V n) (helper_out I h w.0 n (cases_Bool (I w.0)) w.2) v) ]

  pub healthy_back : (I : NumSet) (h : Healthy F I) → Healthy R (joined_supports I h)
  healthy_back I h =
      let K : NumSet = joined_supports I h in
      record {
        packages = λ n j. elim (joined_cases_of I h n j) [ inl a ↦ in_r n (h.packages n a) | inr w ↦ helper_in I h w.0 n (cases_Bool (I w.0)) w.2 ];
        abundance = λ n j. elim (joined_cases_of I h n j) [
          | inl a ↦ member_hit I h n (cases_Bool (I n)) K a (joined_old I h) (λ k l. joined_new I h n k a l) n (inl refl)
          | inr w ↦ member_hit I h w.0 (cases_Bool (I w.0)) K w.1 (joined_old I h) (λ k l. joined_new I h w.0 k w.1 l) n (inr w.2)
        ];
        peace = λ m n a b. false_from_ne_true (against R m n) (λ t.
            let v : (V m ≡ true) × (V n ≡ true) = holds m n t in
            both_ways (against R m n) (subst (λ g. has (slice_index_or g m []) n ≡ false) flat.conflicts (h.peace m n (in_set I h m v.0 a) (in_set I h n v.1 b))) t);
      }

pub keeps_every_set_lem : KeepsEverySet
keeps_every_set_lem R V F bound holds flat S = (
  λ c. record { whole = c.whole; healthy = healthy_there R V F bound holds flat c.whole c.healthy; contains = c.contains },
  λ c. record {
    whole = joined_supports R V F bound holds flat c.whole c.healthy;
    healthy = healthy_back R V F bound holds flat c.whole c.healthy;
    contains = λ n i. joined_old R V F bound holds flat c.whole c.healthy n (c.contains n i);
  },
)

-- the first rows
first_support : (R : Repository) (p : ℕ) (X : NumSet) → HitsAll X (apart_from p (clauses_of R p)) → Support R (all_packages R) p X
first_support R p X h = record {
  helpers = λ n. false;
  packages = λ n j. absurd (false≢true j);
  outside = λ n j. absurd (false≢true j);
  own = λ c i. elim (decided_in p c) [
    | inl j ↦ record { by = p; inside = j; alive = inr (inr refl) }
    | inr f ↦ Hit-mono (λ n a. inl a) (h c (apart_in p (clauses_of R p) c i f))
  ];
  others = λ n j. absurd (false≢true j);
}

first_hits : (R : Repository) (p : ℕ) (X : NumSet) → Support R (all_packages R) p X → HitsAll X (apart_from p (clauses_of R p))
first_hits R p X s c i =
    let w : In c (clauses_of R p) × (In p c → ⊥) = apart_cases p (clauses_of R p) c i in
    let hit : Hit (Alive X s.helpers p) c = s.own c w.0 in
    record {
      by = hit.by;
      inside = hit.inside;
      alive = elim hit.alive [
        | inl x ↦ x
        | inr (inl y) ↦ absurd (both_ways (all_packages R hit.by) (s.outside hit.by y) (lt-ltb hit.by (length R.clauses) (s.packages hit.by y)))
        | inr (inr e) ↦ absurd (w.1 (subst (λ k. In k c) e hit.inside))
      ];
    }

pub first_rows_lem : FirstRows
first_rows_lem R p sound =
    let cs : List (List ℕ) = apart_from p (clauses_of R p) in
    let parts : (T : List ℕ) → In T (minimal_of cs) → In T (clauses_of R p) × (In p T → ⊥) = λ T i. apart_cases p (clauses_of R p) T (minimal_of_parts cs T i).0 in
    row_from_hits R (all_packages R) p (minimal_of cs)
    (λ T i. (sound p T (parts T i).0).0)
    (λ T i n j. lt-ltb n (length R.clauses) ((sound p T (parts T i).0).1 n j))
    (λ T i n j e. (parts T i).1 (subst (λ k. In k T) e j))
    (λ S T i j f. (minimal_of_parts cs T j).1 S (minimal_of_parts cs S i).0 f)
    (λ X w. ((λ s T i. first_hits R p X s T (minimal_of_parts cs T i).0), (λ h. first_support R p X (hits_minimal X cs h))))

-- the row of the package that went
self_there : (R : Repository) (V : NumSet) (q : ℕ) (X : NumSet) → Support R V q X → Support R (without V q) q X
self_there R V q X s = record {
  helpers = s.helpers;
  packages = s.packages;
  outside = λ n j. outside_more V q n (s.outside n j);
  own = s.own;
  others = s.others;
}

self_back : (R : Repository) (V : NumSet) (q : ℕ) (X : NumSet) → Support R (without V q) q X → Support R V q X
self_back R V q X s =
    let more : (n : ℕ) → Alive X s.helpers q n → Alive X (without s.helpers q) q n =
    alive_map X X s.helpers (without s.helpers q) q q (λ n a. inl a)
    (λ n b. elim (cases_eq n q) [ inl e ↦ inr (inr e) | inr ne ↦ inr (inl (without_from s.helpers q n b ne)) ])
    (inr (inr refl)) in
    record {
      helpers = without s.helpers q;
      packages = λ n j. s.packages n (without_parts s.helpers q n j).0;
      outside = λ n j. outside_less V q n (s.outside n (without_parts s.helpers q n j).0) (without_parts s.helpers q n j).1;
      own = λ c i. Hit-mono more (s.own c i);
      others = λ n j c i. Hit-mono more (s.others n (without_parts s.helpers q n j).0 c i);
    }

self_blocks : (R : Repository) (V : NumSet) (q : ℕ) (T : List ℕ) → Blocks R V q T → Blocks R (without V q) q T
self_blocks R V q T b = record {
  within = λ n i. without_from V q n (b.within n i) (b.apart n i);
  apart = b.apart;
  fails = λ s. b.fails (support_grows_lem R V q (minus (without V q) T) (minus V T)
      (λ n h. let w : Is (without V q) n × (In n T → ⊥) = minus_parts (without V q) T n h in minus_from V T n (without_parts V q n w.0).0 w.1)
      (self_back R V q (minus (without V q) T) s));
}

self_blocks_back : (R : Repository) (V : NumSet) (q : ℕ) (T : List ℕ) → Blocks R (without V q) q T → Blocks R V q T
self_blocks_back R V q T b = record {
  within = λ n i. (without_parts V q n (b.within n i)).0;
  apart = b.apart;
  fails = λ s. b.fails (self_there R V q (minus (without V q) T)
      (support_absorbs R V q (minus (without V q) T) (support_grows_lem R V q (minus V T) (plus (minus (without V q) T) q)
      (λ n h. let w : Is V n × (In n T → ⊥) = minus_parts V T n h in
      elim (cases_eq n q) [
        | inl e ↦ plus_new (minus (without V q) T) q n e
        | inr ne ↦ plus_old (minus (without V q) T) q n (minus_from (without V q) T n (without_from V q n w.0 ne) w.1)
      ]) s)));
}

pub own_row_stays_lem : OwnRowStays
own_row_stays_lem R V q B r = record {
  sound = λ T i. let l : MinimalBlock R V q T = r.sound T i in record {
    ascending = l.ascending;
    blocks = self_blocks R V q T l.blocks;
    minimal = λ S b f. l.minimal S (self_blocks_back R V q S b) f;
  };
  whole = λ T l. r.whole T (record {
    ascending = l.ascending;
    blocks = self_blocks_back R V q T l.blocks;
    minimal = λ S b f. l.minimal S (self_blocks R V q S b) f;
  });
}
