-- Redundant conflicts.
use Rattle.std.proofs.Common.{◌≡◌, ℕ, ◌<◌, Bool, true, false, not, ◌&&◌, ◌||◌, eqb, cond, List, [], ◌∷◌, length, inl, inr, refl, sym, ◌∙◌, ap, ap₂, subst}
use Rattle.std.proofs.Common.{arith, eqb-true, filter, ◌↔◌}
use Rattle.std.proofs.lemmas.Bool.{both_ways, cases_Bool, cases_lt, and_parts, and_from, and_left, or_cases, not_from_false, false_from_ne_true}
use Rattle.row_book.specs.{Sets.{NumSet, Hit, Is}, Repository.{Repository, Healthy, against, conflicts_of}, Sound.{SoundRepository}, Facing.{sides}}
use Rattle.row_book.specs.Thinning.{is_pair, against_but, without_pair, is_redundant, thin_pair, thin_over, conflicting_pairs, thin}
use Rattle.listed.specs.Lists.{In, has, Ascending}
use Rattle.listed.proofs.Orders.{ascending_filter}
use Rattle.row_book.proofs.{Numbers.{at_numbers, length_numbers}, Repositories.{both, has_filter, symmetric, conflict_within, each_list}}
use Rattle.row_book.proofs.Facing.{face_parts, side_hit}
use Rattle.conflict_reduce.specs.Laws.{RedundantKeeps, ThinKeeps, ThinIsSound, ThinnedFrom}

pub less_list : (R : Repository) (a b m : ℕ) → m < length R.clauses → conflicts_of (without_pair R a b) m ≡ filter (λ q. not (is_pair a b m q)) (conflicts_of R m)
less_list R a b m l =
    at_numbers (λ p. filter (λ q. not (is_pair a b p q)) (conflicts_of R p)) [] (length R.clauses) 0 m l
    ∙ ap (λ p. filter (λ q. not (is_pair a b p q)) (conflicts_of R p)) (omega arith)

pub less_against : (R : Repository) (a b m n : ℕ) → m < length R.clauses → against (without_pair R a b) m n ≡ against_but R a b m n
less_against R a b m n l = ap (λ xs. has xs n) (less_list R a b m l) ∙ has_filter (λ q. not (is_pair a b m q)) (conflicts_of R m) n

meet : (R : Repository) (a b : ℕ) (I : NumSet) → is_redundant R a b ≡ true → Healthy (without_pair R a b) I → Is I a → Is I b → ⊥
meet R a b I r h i j =
    let w : (d : List ℕ) × (e : List ℕ) × In d (sides R a) × In e (sides R b) × ((m n : ℕ) → In m d → In n e → against_but R a b m n ≡ true) =
    face_parts (against_but R a b) (sides R a) (sides R b) r in
    let x : Hit (Is I) w.0 = side_hit (without_pair R a b) I a w.0 h i w.2 in
    let y : Hit (Is I) w.1 = side_hit (without_pair R a b) I b w.1 h j w.3 in
    both_ways (against_but R a b x.by y.by)
    (sym (less_against R a b x.by y.by (h.packages x.by x.alive)) ∙ h.peace x.by y.by x.alive y.alive) (w.4 x.by y.by x.inside y.inside)

meet_pair : (R : Repository) (a b : ℕ) (I : NumSet) → is_redundant R a b ≡ true → Healthy (without_pair R a b) I → (m n : ℕ) → Is I m → Is I n → is_pair a b m n ≡ true → ⊥
meet_pair R a b I r h m n i j t =
    elim (or_cases (eqb m a && eqb n b) (eqb m b && eqb n a) t) [
      | inl e ↦ let w : (eqb m a ≡ true) × (eqb n b ≡ true) = and_parts (eqb m a) (eqb n b) e in
          meet R a b I r h (subst (λ k. Is I k) (eqb-true m a w.0) i) (subst (λ k. Is I k) (eqb-true n b w.1) j)
      | inr e ↦ let w : (eqb m b ≡ true) × (eqb n a ≡ true) = and_parts (eqb m b) (eqb n a) e in
          meet R a b I r h (subst (λ k. Is I k) (eqb-true n a w.1) j) (subst (λ k. Is I k) (eqb-true m b w.0) i)
    ]

pub redundant_keeps_lem : RedundantKeeps
redundant_keeps_lem R a b I r = (
  (λ h. record {
    packages = h.packages;
    abundance = h.abundance;
    peace = λ m n i j. less_against R a b m n (h.packages m i) ∙ and_left (against R m n) (not (is_pair a b m n)) (h.peace m n i j);
  }),
  (λ h. record {
    packages = h.packages;
    abundance = h.abundance;
    peace = λ m n i j. false_from_ne_true (against R m n) (λ t. elim (cases_Bool (is_pair a b m n)) [
      | inl y ↦ meet_pair R a b I r h m n i j y
      | inr f ↦ both_ways (against_but R a b m n) (sym (less_against R a b m n (h.packages m i)) ∙ h.peace m n i j)
          (and_from (against R m n) (not (is_pair a b m n)) t (not_from_false (is_pair a b m n) f))
    ]);
  }),
)

thinned_keeps : (R : Repository) (a b : ℕ) (I : NumSet) → (Healthy R I ↔ Healthy (thin_pair R a b) I)
thinned_keeps R a b I = pick (is_redundant R a b) refl
  where
    pick : (t : Bool) → is_redundant R a b ≡ t → (Healthy R I ↔ Healthy (cond t (without_pair R a b) R) I)
    pick true e = redundant_keeps_lem R a b I e
    pick false e = ((λ h. h), (λ h. h))

thin_over_keeps : (ws : List (ℕ × ℕ)) (R : Repository) (I : NumSet) → (Healthy R I ↔ Healthy (thin_over R ws) I)
thin_over_keeps [] R I = ((λ h. h), (λ h. h))
thin_over_keeps (w ∷ ws) R I = both (thinned_keeps R w.0 w.1 I) (thin_over_keeps ws (thin_pair R w.0 w.1) I)

pub thin_keeps_lem : ThinKeeps
unfolding thin
thin_keeps_lem R I = thin_over_keeps (conflicting_pairs R) R I

-- thinning stays sound
swap : (a b c d : Bool) → ((a && b) || (c && d)) ≡ ((d && c) || (b && a))
swap true true true true = refl
swap true true true false = refl
swap true true false true = refl
swap true true false false = refl
swap true false true true = refl
swap true false true false = refl
swap true false false true = refl
swap true false false false = refl
swap false true true true = refl
swap false true true false = refl
swap false true false true = refl
swap false true false false = refl
swap false false true true = refl
swap false false true false = refl
swap false false false true = refl
swap false false false false = refl

pub less_count : (R : Repository) (a b : ℕ) → length (without_pair R a b).conflicts ≡ length R.clauses
less_count R a b = length_numbers (λ p. filter (λ q. not (is_pair a b p q)) (conflicts_of R p)) (length R.clauses) 0

pub less_test : (R : Repository) (a b : ℕ) → SoundRepository R → (m n : ℕ) → against (without_pair R a b) m n ≡ against_but R a b m n
less_test R a b s m n =
    elim (cases_lt m (length R.clauses)) [
      | inl l ↦ less_against R a b m n l
      | inr past ↦
          false_from_ne_true (against (without_pair R a b) m n) (λ t. let l : m < length R.clauses = conflict_within (without_pair R a b) (less_count R a b) m n t in absurd (omega arith))
          ∙ sym (and_left (against R m n) (not (is_pair a b m n)) (false_from_ne_true (against R m n) (λ t. let l : m < length R.clauses = conflict_within R s.count m n t in absurd (omega arith))))
    ]

pub less_sound : (R : Repository) (a b : ℕ) → SoundRepository R → SoundRepository (without_pair R a b)
less_sound R a b s = record {
  clauses = s.clauses;
  count = less_count R a b;
  conflicts = record {
    ascending = each_list Ascending (without_pair R a b).conflicts tt (λ p l.
        subst Ascending (sym (less_list R a b p (subst (λ k. p < k) (less_count R a b) l)))
        (ascending_filter (λ q. not (is_pair a b p q)) (conflicts_of R p) (s.conflicts.ascending p)));
    either_way = λ p q t.
        less_test R a b s q p
        ∙ (ap₂ (λ t u. t && not u) (symmetric R s q p) (swap (eqb q a) (eqb p b) (eqb q b) (eqb p a))
        ∙ (sym (less_test R a b s p q) ∙ t));
    apart = λ p. less_test R a b s p p ∙ and_left (against R p p) (not (is_pair a b p p)) (s.conflicts.apart p);
  };
}

thinned_sound : (R : Repository) (a b : ℕ) → SoundRepository R → ThinnedFrom R (thin_pair R a b)
thinned_sound R a b s = pick (is_redundant R a b)
  where
    pick : (t : Bool) → ThinnedFrom R (cond t (without_pair R a b) R)
    pick true = record { sound = less_sound R a b s; clauses = refl }
    pick false = record { sound = s; clauses = refl }

over_sound : (ws : List (ℕ × ℕ)) (R : Repository) → SoundRepository R → ThinnedFrom R (thin_over R ws)
over_sound [] R s = record { sound = s; clauses = refl }
over_sound (w ∷ ws) R s =
    let t : ThinnedFrom R (thin_pair R w.0 w.1) = thinned_sound R w.0 w.1 s in
    let u : ThinnedFrom (thin_pair R w.0 w.1) (thin_over R (w ∷ ws)) = over_sound ws (thin_pair R w.0 w.1) t.sound in
    record { sound = u.sound; clauses = u.clauses ∙ t.clauses }

pub thin_is_sound_lem : ThinIsSound
unfolding thin
thin_is_sound_lem R s = over_sound (conflicting_pairs R) R s
