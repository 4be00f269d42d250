-- The conflicts within reach are all that a search for the goals can meet.
use Rattle.std.proofs.Common.{◌≡◌, ℕ, ◌+◌, ◌<◌, Bool, true, false, ◌&&◌, ◌||◌, eqb, List, [], ◌∷◌, ◌++◌, inl, inr, length, map, filter, refl, sym, ap, ◌∙◌}
use Rattle.std.proofs.Common.{subst, arith}
use Rattle.std.proofs.lemmas.Bool.{cases_lt, and_parts, and_from, or_left, or_right, both_ways, ltb-true, lt-ltb, eq-eqb, false_from_ne_true}
use Rattle.std.proofs.{lemmas.List.{append-nil}, lemmas.List.Concat.{flat_map-append}}
use Rattle.std.specs.{Prelude.{ltb}, List.{flat_map, range_with_len}}
use Rattle.listed.proofs.Lists.{In_flat_cases, In_flat, In_append_cases, In_append_left, In_append_right, In_cases, In_has, In_map, In_map_cases, In_none}
use Rattle.listed.proofs.{Lists.{any_from, filter_cases, filter_from, has_In}, Numbers.{number_kept, number_left}}
use Rattle.row_book.specs.{Book.{are_paired, PairsFit}, Repository.{Repository, against, conflicts_of}, Sets.{Hit, Is, NumSet}, Sound.{SoundRepository}}
use Rattle.row_book.specs.declared.pair.Pair.{Pair}
use Rattle.listed.specs.Lists.{In, here, there}
use Rattle.row_book.proofs.Repositories.{between}
use Rattle.repo_model.proofs.Elements.{range_from}
use Rattle.search_terms.specs.Laws.{HasNoSolution, Solves}
use Rattle.explain_core.specs.{Only.{conflicts_above, conflicts_within, only, pair}, Reach.{HoldsNeeds}}
use Rattle.explain_core.proofs.Overs.{only_against}

module _ (R : Repository) (sound : SoundRepository R) (S : NumSet) where
  abbrev is_above : ℕ → ℕ → Bool
  is_above low high = ltb low high && S high

  -- a conflict of two packages of the set is one of the pairs
  above_in : (m n : ℕ) → m < n → Is S m → Is S n → against R m n ≡ true → In (pair m n) (conflicts_within R S)
  above_in m n lt s t a =
      let w = between R sound m n a in
      let lm : m < length R.clauses = w.0 in
      In_flat (conflicts_above R S) (filter S (range_with_len 0 (length R.clauses))) m (pair m n)
      (filter_from S (range_with_len 0 (length R.clauses)) m (range_from (length R.clauses) 0 m (omega arith) (omega arith)) s)
      (In_map (pair m) (filter (is_above m) (conflicts_of R m)) n (filter_from (is_above m) (conflicts_of R m) n (has_In (conflicts_of R m) n a) (and_from (ltb m n) (S n) (lt-ltb m n lt) t)))

  paired_one : (x : Pair) (pairs : List Pair) → In x pairs → are_paired pairs x.low x.high ≡ true
  paired_one x pairs i = any_from (λ y. (eqb y.low x.low && eqb y.high x.high) || (eqb y.low x.high && eqb y.high x.low)) pairs x i
      (or_left (eqb x.low x.low && eqb x.high x.high) (eqb x.low x.high && eqb x.high x.low) (and_from (eqb x.low x.low) (eqb x.high x.high) (eq-eqb x.low x.low refl) (eq-eqb x.high x.high refl)))

  paired_other : (x : Pair) (pairs : List Pair) → In x pairs → are_paired pairs x.high x.low ≡ true
  paired_other x pairs i = any_from (λ y. (eqb y.low x.high && eqb y.high x.low) || (eqb y.low x.low && eqb y.high x.high)) pairs x i
      (or_right (eqb x.low x.high && eqb x.high x.low) (eqb x.low x.low && eqb x.high x.high) (and_from (eqb x.low x.low) (eqb x.high x.high) (eq-eqb x.low x.low refl) (eq-eqb x.high x.high refl)))

  -- so it is whichever is the lesser
  pub paired_in : (m n : ℕ) → Is S m → Is S n → against R m n ≡ true → are_paired (conflicts_within R S) m n ≡ true
  paired_in m n s t a = elim (cases_lt m n) [
    | inl lt ↦ paired_one (pair m n) (conflicts_within R S) (above_in m n lt s t a)
    | inr ge ↦ elim (cases_lt n m) [
      | inl gt ↦ paired_other (pair n m) (conflicts_within R S) (above_in n m gt t s (sound.conflicts.either_way m n a))
      | inr le ↦
          let same : m ≡ n = omega arith in
          absurd (both_ways (against R m m) (sound.conflicts.apart m) (subst (λ k. against R m k ≡ true) (sym same) a))
    ]
  ]

  one_fits : (x : Pair) → In x (conflicts_within R S) → (x.low < x.high) × (x.high < length R.clauses)
  one_fits x i =
      let a = In_flat_cases (conflicts_above R S) (filter S (range_with_len 0 (length R.clauses))) x i in
      let b = In_map_cases (pair a.0) (filter (is_above a.0) (conflicts_of R a.0)) x a.2 in
      let c = filter_cases (is_above a.0) (conflicts_of R a.0) b.0 b.1 in
      let lt : a.0 < b.0 = ltb-true a.0 b.0 (and_parts (ltb a.0 b.0) (S b.0) c.1).0 in
      let inside : b.0 < length R.clauses = (between R sound a.0 b.0 (In_has c.0)).1 in
      subst (λ y. (y.low < y.high) × (y.high < length R.clauses)) (sym b.2) (lt, inside)

  pub within_fit : PairsFit (conflicts_within R S) (length R.clauses)
  within_fit = record { ordered = λ x i. (one_fits x i).0; below = λ x i. (one_fits x i).1 }

  -- a healthy set with these conflicts alone, cut down to what is within reach, is healthy
  module _ (goals : List (List ℕ)) (holds : HoldsNeeds R goals S) where
    pub cut : NumSet → NumSet
    cut I n = I n && S n

    cut_from : (I : NumSet) (n : ℕ) → Is I n → Is S n → Is (cut I) n
    unfolding cut
    cut_from I n i s = and_from (I n) (S n) i s

    cut_parts : (I : NumSet) (n : ℕ) → Is (cut I) n → Is I n × Is S n
    unfolding cut
    cut_parts I n i = and_parts (I n) (S n) i

    pub cut_solves : (I : NumSet) → Solves (only R (conflicts_within R S)) goals I → Solves R goals (cut I)
    cut_solves I s = (
      record {
        packages = λ n i. s.0.packages n (cut_parts I n i).0;
        abundance = λ n i c j.
            let both = cut_parts I n i in
            let hit : Hit (Is I) c = s.0.abundance n both.0 c j in
            record { by = hit.by; inside = hit.inside; alive = cut_from I hit.by hit.alive (holds.of_clauses n both.1 c j hit.by hit.inside) };
        peace = λ m n i j.
            let a = cut_parts I m i in
            let b = cut_parts I n j in
            false_from_ne_true (against R m n) (λ t.
            both_ways (against (only R (conflicts_within R S)) m n) (s.0.peace m n a.0 b.0)
            (only_against R (conflicts_within R S) m n (s.0.packages m a.0) (s.0.packages n b.0) ∙ paired_in m n a.1 b.1 t));
      },
      (λ g i.
          let hit : Hit (Is I) g = s.1 g i in
          record { by = hit.by; inside = hit.inside; alive = cut_from I hit.by hit.alive (holds.of_goals g i hit.by hit.inside) }),
    )

    pub within_none : HasNoSolution R goals → HasNoSolution (only R (conflicts_within R S)) goals
    within_none none I healthy hits = let w = cut_solves I (healthy, hits) in none (cut I) w.0 w.1

-- a loop over the packages, one more at a time
module _ (R : Repository) (S : NumSet) (low : ℕ) where
  abbrev so_far : ℕ → List ℕ
  so_far n = filter S (range_with_len 0 n)

  pub within_more : (old new : List Pair) (lent : List ℕ) → S low ≡ true → old ≡ flat_map (conflicts_above R S) (so_far low) → lent ≡ conflicts_of R low →
      new ≡ old ++ map (pair low) (filter (λ high. ltb low high && S high) lent) → new ≡ flat_map (conflicts_above R S) (so_far (low + 1))
  within_more old new lent t sofar is pushed =
      let kept : so_far low ++ low ∷ [] ≡ so_far (low + 1) = number_kept S low (so_far low) (so_far low ++ low ∷ []) t refl refl in
      pushed ∙ ap (λ xs. xs ++ map (pair low) (filter (λ high. ltb low high && S high) lent)) sofar
      ∙ ap (λ l. flat_map (conflicts_above R S) (so_far low) ++ map (pair low) (filter (λ high. ltb low high && S high) l)) is
      ∙ sym (ap (λ xs. flat_map (conflicts_above R S) (so_far low) ++ xs) (append-nil (conflicts_above R S low)))
      ∙ sym (flat_map-append (conflicts_above R S) (so_far low) (low ∷ [])) ∙ ap (flat_map (conflicts_above R S)) kept

  pub within_left : (old : List Pair) → S low ≡ false → old ≡ flat_map (conflicts_above R S) (so_far low) → old ≡ flat_map (conflicts_above R S) (so_far (low + 1))
  within_left old f sofar = sofar ∙ ap (flat_map (conflicts_above R S)) (number_left S low (so_far low) f refl)
