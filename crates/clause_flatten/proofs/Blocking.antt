-- X supports p over V exactly where it hits each clause of the row of p over V.
use Rattle.std.proofs.Common.{◌≡◌, ◌≢◌, ℕ, ◌<◌, Bool, not, ◌&&◌, eqb, List, [], ◌∷◌, ◌↔◌, inl, inr, subst, arith, zero-le}
use Rattle.std.proofs.lemmas.Bool.{both_ways, cases_Bool, cases_eq, and_parts, and_from, not_from_false, not-true}
use Rattle.row_book.specs.{Sets.{Hit, HitsAll, Is, NumSet, Within, minus, plus, without}, Repository.{Repository}}
use Rattle.row_book.specs.Support.{Blocks, IsRow, MinimalBlock, Support}
use Rattle.listed.specs.Lists.{In, Ascending, Inside}
use Rattle.clause_families.specs.Unions.{clause_without}
use Rattle.row_book.proofs.Sets.{plus_new, plus_old, without_from, without_parts}
use Rattle.row_book.proofs.Lists.{decided_hit, hits_or, members_from, members_from_ascending, members_from_from, members_from_parts, minus_from, minus_parts}
use Rattle.listed.proofs.{Lists.{In_cases, In_none, decided_in}, Orders.{ascending_filter, ascending_same}}
use Rattle.clause_flatten.proofs.{Supports.{support_grows_lem}, Decisions.{decided_support, support_absorbs}}
use Rattle.clause_families.proofs.Unions.{dropped_from, dropped_parts}

-- a part of a set of numbers within V, not hit by X: X is within V without it
missed_within : (V X : NumSet) (T : List ℕ) → Within X V → (Hit (Is X) T → ⊥) → Within X (minus V T)
missed_within V X T w f n h = minus_from V T n (w n h) (λ i. f (record { by = n; inside = i; alive = h }))

minus_less : (V : NumSet) (S T : List ℕ) → Inside S T → Within (minus V T) (minus V S)
minus_less V S T f n h =
    let w : Is V n × (In n T → ⊥) = minus_parts V T n h in
    minus_from V S n w.0 (λ i. w.1 (f n i))

-- a claim hits each least blocking set
pub hit_from_support : (R : Repository) (V : NumSet) (p : ℕ) → (X : NumSet) → Within X V → Support R V p X → (T : List ℕ) → Blocks R V p T → Hit (Is X) T
hit_from_support R V p X w h T b =
    elim (decided_hit X T) [ inl y ↦ y | inr f ↦ absurd (b.fails (support_grows_lem R V p X (minus V T) (missed_within V X T w f) h)) ]

-- a blocking set stays one as it grows, within V and apart from p
blocks_more : (R : Repository) (V : NumSet) (p : ℕ) → (S T : List ℕ) → Inside S T →
    ((n : ℕ) → In n T → Is V n) → ((n : ℕ) → In n T → n ≢ p) → Blocks R V p S → Blocks R V p T
blocks_more R V p S T f w a b = record {
  within = w;
  apart = a;
  fails = λ h. b.fails (support_grows_lem R V p (minus V T) (minus V S) (minus_less V S T f) h);
}

-- what is left of T after each of xs was tried
record Shrunk (R : Repository) (V : NumSet) (p : ℕ) (xs T : List ℕ) : Type 0 where
  left : List ℕ
  part : Inside left T
  order : Ascending left
  blocking : Blocks R V p left
  tight : (x : ℕ) → In x xs → In x left → Blocks R V p (clause_without x left) → ⊥

dropped_inside : (x : ℕ) (S T : List ℕ) → Inside S T → Inside (clause_without x S) (clause_without x T)
dropped_inside x S T f n i = dropped_from x T n (f n (dropped_parts x S n i).0) (dropped_parts x S n i).1

shrink : (R : Repository) (V : NumSet) (p : ℕ) → (xs T : List ℕ) → Ascending T → Blocks R V p T → Shrunk R V p xs T
shrink R V p [] T a b = record { left = T; part = λ n i. i; order = a; blocking = b; tight = λ x i. absurd (In_none i) }
shrink R V p (x ∷ xs) T a b =
    elim (decided_support R V p (minus V (clause_without x T))) [
      | inl yes_f ↦
          let s : Shrunk R V p xs T = shrink R V p xs T a b in
          record {
            left = s.left;
            part = s.part;
            order = s.order;
            blocking = s.blocking;
            tight = λ y i j c. elim (In_cases i) [
              | inl e ↦
                  let c2 : Blocks R V p (clause_without x s.left) = subst (λ k. Blocks R V p (clause_without k s.left)) e c in
                  c2.fails (support_grows_lem R V p (minus V (clause_without x T)) (minus V (clause_without x s.left)) (minus_less V (clause_without x s.left) (clause_without x T) (dropped_inside x s.left T s.part)) yes_f)
              | inr k ↦ s.tight y k j c
            ];
          }
      | inr no_f ↦
          let b2 : Blocks R V p (clause_without x T) = record {
            within = λ n i. b.within n (dropped_parts x T n i).0;
            apart = λ n i. b.apart n (dropped_parts x T n i).0;
            fails = no_f;
          } in
          let s : Shrunk R V p xs (clause_without x T) = shrink R V p xs (clause_without x T) (ascending_filter (λ n. not (eqb n x)) T a) b2 in
          record {
            left = s.left;
            part = λ n i. (dropped_parts x T n (s.part n i)).0;
            order = s.order;
            blocking = s.blocking;
            tight = λ y i j c. elim (In_cases i) [
              | inl e ↦ (dropped_parts x T y (s.part y j)).1 e
              | inr k ↦ s.tight y k j c
            ];
          }
    ]

-- each blocking set has a least one inside
pub least_inside : (R : Repository) (V : NumSet) (p : ℕ) → (T : List ℕ) → Ascending T → Blocks R V p T → (S : List ℕ) × MinimalBlock R V p S × Inside S T
least_inside R V p T a b =
    let s : Shrunk R V p T T = shrink R V p T T a b in (
      s.left,
      record {
        ascending = s.order;
        blocks = s.blocking;
        minimal = λ S c f n i. elim (decided_in n S) [
          | inl y ↦ y
          | inr no_n ↦ absurd (s.tight n (s.part n i) i
              (blocks_more R V p S (clause_without n s.left)
              (λ k j. dropped_from n s.left k (f k j) (λ e. no_n (subst (λ x. In x S) e j)))
              (λ k j. s.blocking.within k (dropped_parts n s.left k j).0)
              (λ k j. s.blocking.apart k (dropped_parts n s.left k j).0) c))
        ];
      },
      s.part,
    )

-- the members of V that are neither p nor in X
others_of : NumSet → ℕ → NumSet → ℕ → Bool
others_of V p X n = without V p n && not (X n)

pub support_from_hits : (R : Repository) (V : NumSet) (p : ℕ) → (size : ℕ) → ((n : ℕ) → Is V n → n < size) →
    (rows : List (List ℕ)) → IsRow R V p rows → (X : NumSet) → HitsAll X rows → Support R V p X
unfolding others_of
support_from_hits R V p size bound rows r X h =
    elim (decided_support R V p X) [
      | inl y ↦ y
      | inr f ↦
          let T : List ℕ = members_from (others_of V p X) size 0 in
          let parts : (n : ℕ) → In n T → Is (without V p) n × Is (λ k. not (X k)) n =
          λ n i. and_parts (without V p n) (not (X n)) (members_from_parts (others_of V p X) size 0 n i).0 in
          let b : Blocks R V p T = record {
            within = λ n i. (without_parts V p n (parts n i).0).0;
            apart = λ n i. (without_parts V p n (parts n i).0).1;
            fails = λ g. f (support_absorbs R V p X (support_grows_lem R V p (minus V T) (plus X p)
                (λ n j. elim (cases_eq n p) [
                  | inl e ↦ plus_new X p n e
                  | inr ne ↦ elim (cases_Bool (X n)) [
                    | inl x ↦ plus_old X p n x
                    | inr nx ↦ let w : Is V n × (In n T → ⊥) = minus_parts V T n j in
                        absurd (w.1 (members_from_from (others_of V p X) size 0 n (and_from (without V p n) (not (X n)) (without_from V p n w.0 ne) (not_from_false (X n) nx)) zero-le (let l : n < size = bound n w.0 in omega arith)))
                  ]
                ]) g));
          } in
          let s : (S : List ℕ) × MinimalBlock R V p S × Inside S T = least_inside R V p T (members_from_ascending (others_of V p X) size 0) b in
          let hit : Hit (Is X) s.0 = h s.0 (r.whole s.0 s.1) in
          absurd (both_ways (X hit.by) (not-true (X hit.by) (parts hit.by (s.2 hit.by hit.inside)).1) hit.alive)
    ]

-- a claim holds exactly where its row is hit
pub row_says : (R : Repository) (V : NumSet) (p : ℕ) → (size : ℕ) → ((n : ℕ) → Is V n → n < size) →
    (rows : List (List ℕ)) → IsRow R V p rows → (X : NumSet) → Within X V → (Support R V p X ↔ HitsAll X rows)
row_says R V p size bound rows r X w = (
  λ h T i. hit_from_support R V p X w h T (r.sound T i).blocks,
  support_from_hits R V p size bound rows r X,
)

-- a set of sets of which none is inside another is fixed by the sets that hit all of its members
pub row_from_hits : (R : Repository) (V : NumSet) (p : ℕ) → (rows : List (List ℕ)) →
    ((T : List ℕ) → In T rows → Ascending T) → ((T : List ℕ) → In T rows → (n : ℕ) → In n T → Is V n) → ((T : List ℕ) → In T rows → (n : ℕ) → In n T → n ≢ p) →
    ((S T : List ℕ) → In S rows → In T rows → Inside S T → Inside T S) →
    ((X : NumSet) → Within X V → (Support R V p X ↔ HitsAll X rows)) → IsRow R V p rows
row_from_hits R V p rows order within apart chain law =
    let in_v : (T : List ℕ) → Within (minus V T) V = λ T n h. (minus_parts V T n h).0 in
    let blocks : (T : List ℕ) → In T rows → Blocks R V p T = λ T i. record {
      within = within T i;
      apart = apart T i;
      fails = λ f. let hit : Hit (Is (minus V T)) T = (law (minus V T) (in_v T)).0 f T i in
          (minus_parts V T hit.by hit.alive).1 hit.inside;
    } in
    let inner : (S : List ℕ) → Blocks R V p S → (T : List ℕ) × In T rows × Inside T S =
    λ S b. elim (hits_or (minus V S) rows) [
      | inl all ↦ absurd (b.fails ((law (minus V S) (in_v S)).1 all))
      | inr (T, i, f) ↦ (
        T,
        i,
        λ n j. elim (decided_in n S) [
          | inl y ↦ y
          | inr g ↦ absurd (f (record { by = n; inside = j; alive = minus_from V S n (within T i n j) g }))
        ],
      )
    ] in
    record {
      sound = λ T i. record {
        ascending = order T i;
        blocks = blocks T i;
        minimal = λ S b f n j.
            let t : (U : List ℕ) × In U rows × Inside U S = inner S b in
            t.2 n (chain t.0 T t.1 i (λ k l. f k (t.2 k l)) n j);
      };
      whole = λ T l.
          let t : (U : List ℕ) × In U rows × Inside U T = inner T l.blocks in
          let e : t.0 ≡ T = ascending_same t.0 T (order t.0 t.1) l.ascending t.2 (l.minimal t.0 (blocks t.0 t.1) t.2) in
          subst (λ U. In U rows) e t.1;
    }
