-- A set that is healthy with the rows is healthy with the clauses once the greatest set of helpers is put in.
use Rattle.std.proofs.Common.{◌≡◌, ℕ, true, false, not, ◌&&◌, ◌⊎◌, inl, inr}
use Rattle.std.proofs.lemmas.Bool.{both_ways, cases_Bool, or_cases, or_left, or_right, false_from_ne_true, and_parts, and_from, not_from_false, not-true}
use Rattle.row_book.specs.{Sets.{Is, NumSet, Within, union}, Repository.{Healthy, Repository, against}, Sound.{OfPackages}, Flattening.{flat}}
use Rattle.clause_flatten.specs.Laws.{FlattenedBy, HoldsConflicts, LiftIsHealthy, Lifts}
use Rattle.row_book.proofs.Sets.{Hit-mono}
use Rattle.clause_flatten.proofs.Kept.{healthy_back, in_set, joined_old, joined_supports}

-- the members of K outside V
out_of : NumSet → NumSet → NumSet
out_of K V n = K n && not (V n)

module _ (R : Repository) (V : NumSet) (F : Repository) (bound : OfPackages R V) (holds : HoldsConflicts R V) (flat : FlattenedBy R V F) (I J : NumSet) (h : Healthy F I) (lifts : Lifts R I J) where
  whole : NumSet
  whole = joined_supports R V F bound holds flat I h

  whole_healthy : Healthy R whole
  unfolding whole
  whole_healthy = healthy_back R V F bound holds flat I h

  -- its members are in the set, or outside V
  split : (n : ℕ) → Is whole n → Is I n ⊎ Is (out_of whole V) n
  unfolding whole out_of
  split n j = elim (cases_Bool (V n)) [
    | inl v ↦ inl (in_set R V F bound holds flat I h n v j)
    | inr f ↦ inr (and_from (whole n) (not (V n)) j (not_from_false (V n) f))
  ]

  out_parts : (n : ℕ) → Is (out_of whole V) n → Is whole n × (V n ≡ false)
  unfolding out_of
  out_parts n j = let w : (whole n ≡ true) × (not (V n) ≡ true) = and_parts (whole n) (not (V n)) j in (w.0, not-true (V n) w.1)

  helpers_in : Within (out_of whole V) J
  helpers_in = lifts.greatest (out_of whole V) (record {
    packages = λ n j. whole_healthy.packages n (out_parts n j).0;
    free = λ n m j. (
      false_from_ne_true (against R n m) (λ t. both_ways (V n) (out_parts n j).1 (holds n m t).0),
      false_from_ne_true (against R m n) (λ t. both_ways (V n) (out_parts n j).1 (holds m n t).1),
    );
    abundance = λ n j c i. Hit-mono split (whole_healthy.abundance n (out_parts n j).0 c i);
  })

  pub lift_healthy : Healthy R (union I J)
  unfolding whole
  lift_healthy =
      let more : (n : ℕ) → Is whole n → Is (union I J) n =
      λ n j. elim (split n j) [ inl a ↦ or_left (I n) (J n) a | inr b ↦ or_right (I n) (J n) (helpers_in n b) ] in
      let old : (n : ℕ) → Is I n → Is whole n = λ n i. joined_old R V F bound holds flat I h n i in
      record {
        packages = λ n j. elim (or_cases (I n) (J n) j) [ inl a ↦ whole_healthy.packages n (old n a) | inr b ↦ lifts.served.packages n b ];
        abundance = λ n j. elim (or_cases (I n) (J n) j) [
          | inl a ↦ λ c i. Hit-mono more (whole_healthy.abundance n (old n a) c i)
          | inr b ↦ λ c i. Hit-mono (λ m k. elim k [ inl x ↦ or_left (I m) (J m) x | inr y ↦ or_right (I m) (J m) y ]) (lifts.served.abundance n b c i)
        ];
        peace = λ m n a b. elim (or_cases (I m) (J m) a) [
          | inr x ↦ (lifts.served.free m n x).0
          | inl x ↦ elim (or_cases (I n) (J n) b) [
            | inr y ↦ (lifts.served.free n m y).1
            | inl y ↦ whole_healthy.peace m n (old m x) (old n y)
          ]
        ];
      }

pub lift_is_healthy_lem : LiftIsHealthy
lift_is_healthy_lem R V F bound holds flat I J h l = lift_healthy R V F bound holds flat I J h l
