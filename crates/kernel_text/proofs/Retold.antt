-- The repository that the lines of a kernel tell.
use Rattle.std.proofs.Common.{◌≡◌, ◌≢◌, ℕ, zero, suc, ◌+◌, ◌<◌, ◌≤◌, true, ◌&&◌, eqb, ltb, List, [], ◌∷◌, ◌++◌, ◌⊎◌, length, map, filter, inl, inr, refl, sym}
use Rattle.std.proofs.Common.{ap, ap₂, ◌∙◌, subst, eq-eqb, zero-add, arith}
use Rattle.std.proofs.lemmas.Bool.{cases_lt, cases_eq, and_from, or_left, or_right, lt-ltb, both_ways, ne_eqb}
use Rattle.std.proofs.{lemmas.List.{append-nil, map-append, ext_get_or}, lemmas.List.Elements.{filter-append}}
use Rattle.std.specs.List.{flat_map}
use Rattle.listed.proofs.Lists.{In_flat_cases, In_flat, In_has, has_In, In_map, In_map_cases, any_from, filter_from, filter_cases}
use Rattle.listed.proofs.Orders.{ascending_same, ascending_filter}
use Rattle.row_book.specs.{Book.{are_paired, lists_of_pairs, AreConflicts}, Numbers.{numbers}, Repository.{Repository, clauses_of, conflicts_of}}
use Rattle.row_book.specs.declared.pair.Pair.{Pair}
use Rattle.listed.specs.Lists.{In, has}
use Rattle.row_book.proofs.{Numbers.{numbers_from, numbers_ascending, length_numbers, at_numbers}, Pairs.{is_of, paired_cases}}
use Rattle.kernel_text.specs.{KernelText.{greater_conflicts}, Reading.{ClassClause, clauses_of_class}}
use Rattle.kernel_text.proofs.Printed.{clause_entry, clause_entries, pair_of, pairs_of}

-- the clauses of one class among those of all
clauses_append : (xs ys : List ClassClause) (n : ℕ) → clauses_of_class (xs ++ ys) n ≡ clauses_of_class xs n ++ clauses_of_class ys n
clauses_append xs ys n =
    ap (map (λ entry. entry.clause)) (filter-append (λ (entry : ClassClause). eqb entry.class n) xs ys)
    ∙ map-append (λ (entry : ClassClause). entry.clause) (filter (λ entry. eqb entry.class n) xs) (filter (λ entry. eqb entry.class n) ys)

own_clauses : (n : ℕ) (cs : List (List ℕ)) → clauses_of_class (map (clause_entry n) cs) n ≡ cs
own_clauses n [] = refl
own_clauses n (c ∷ cs) = rw (eq-eqb n n refl) (ap (λ xs. c ∷ xs) (own_clauses n cs))

other_clauses : (k n : ℕ) (cs : List (List ℕ)) → k ≢ n → clauses_of_class (map (clause_entry k) cs) n ≡ []
other_clauses k n [] ne = refl
other_clauses k n (c ∷ cs) ne = rw (ne_eqb k n ne) (other_clauses k n cs ne)

no_clauses : (R : Repository) (j k n : ℕ) → n < k → clauses_of_class (flat_map (clause_entries R) (numbers j k)) n ≡ []
unfolding numbers
no_clauses R zero k n l = refl
no_clauses R (suc j) k n l =
    clauses_append (clause_entries R k) (flat_map (clause_entries R) (numbers j (suc k))) n
    ∙ ap₂ (λ xs ys. xs ++ ys) (other_clauses k n (clauses_of R k) (λ e. absurd (omega (arith, e)))) (no_clauses R j (suc k) n (omega arith))

all_clauses : (R : Repository) (j k n : ℕ) → k ≤ n → n < k + j → clauses_of_class (flat_map (clause_entries R) (numbers j k)) n ≡ clauses_of R n
unfolding numbers
all_clauses R zero k n l u = absurd (omega arith)
all_clauses R (suc j) k n l u =
    clauses_append (clause_entries R k) (flat_map (clause_entries R) (numbers j (suc k))) n
    ∙ elim (cases_eq k n) [
      | inl e ↦
          ap₂ (λ xs ys. xs ++ ys) (subst (λ m. clauses_of_class (clause_entries R k) m ≡ clauses_of R m) e (own_clauses k (clauses_of R k))) (no_clauses R j (suc k) n (omega (arith, e)))
          ∙ append-nil (clauses_of R n)
      | inr ne ↦ ap₂ (λ xs ys. xs ++ ys) (other_clauses k n (clauses_of R k) ne) (all_clauses R j (suc k) n (omega (arith, ne)) (omega arith))
    ]

pub clauses_retold : (R : Repository) → R.clauses ≡ map (clauses_of_class (flat_map (clause_entries R) (numbers (length R.clauses) 0))) (numbers (length R.clauses) 0)
clauses_retold R =
    let N : ℕ = length R.clauses in
    let f : ℕ → List (List ℕ) = clauses_of_class (flat_map (clause_entries R) (numbers N 0)) in
    ext_get_or [] R.clauses (map f (numbers N 0)) (sym (length_numbers f N 0)) (λ i l.
    sym (all_clauses R N 0 i (omega arith) (omega (arith, zero-add N))) ∙ ap f (sym (zero-add i)) ∙ sym (at_numbers f [] N 0 i l))

-- the conflicts, of pairs with the lesser class first
module _ (R : Repository) (N : ℕ) (size : length R.conflicts ≡ N) (conflicts : AreConflicts R.conflicts) (low : (m n : ℕ) → In n (conflicts_of R m) → n < N) where
  abbrev pub pairs : List Pair
  pairs = flat_map (pairs_of R) (numbers N 0)

  -- a conflict of a class with a greater one
  found : (p q : ℕ) → p < N → p < q → In q (conflicts_of R p) → In (pair_of p q) pairs
  found p q l g i =
      In_flat (pairs_of R) (numbers N 0) p (pair_of p q) (numbers_from N 0 p (omega arith) (omega arith))
      (In_map (pair_of p) (greater_conflicts R p) q (filter_from (λ m. ltb p m) (conflicts_of R p) q i (lt-ltb p q g)))

  test : (p q a b : ℕ) → ((a ≡ p) × (b ≡ q)) ⊎ ((a ≡ q) × (b ≡ p)) → is_of p q (pair_of a b) ≡ true
  test p q a b (inl w) = or_left (eqb a p && eqb b q) (eqb a q && eqb b p) (and_from (eqb a p) (eqb b q) (eq-eqb a p w.0) (eq-eqb b q w.1))
  test p q a b (inr w) = or_right (eqb a p && eqb b q) (eqb a q && eqb b p) (and_from (eqb a q) (eqb b p) (eq-eqb a q w.0) (eq-eqb b p w.1))

  turned : (p q : ℕ) → In q (conflicts_of R p) → In p (conflicts_of R q)
  turned p q i = has_In (conflicts_of R q) p (conflicts.either_way p q (In_has i))

  paired : (p q : ℕ) → p < N → In q (conflicts_of R p) → are_paired pairs p q ≡ true
  paired p q l i =
      elim (cases_lt p q) [
        | inl g ↦ any_from (is_of p q) pairs (pair_of p q) (found p q l g i) (test p q p q (inl (refl, refl)))
        | inr ge ↦ elim (cases_eq p q) [
          | inl e ↦ absurd (both_ways (has (conflicts_of R p) p) (conflicts.apart p) (In_has (subst (λ k. In k (conflicts_of R p)) (sym e) i)))
          | inr ne ↦ any_from (is_of p q) pairs (pair_of q p) (found q p (low p q i) (omega (arith, ne)) (turned p q i)) (test p q q p (inr (refl, refl)))
        ]
      ]

  -- each pair is of a class and one of its conflicts
  of_pair : (pair : Pair) → In pair pairs → In pair.high (conflicts_of R pair.low)
  of_pair pair i =
      let w : (n : ℕ) × In n (numbers N 0) × In pair (pairs_of R n) = In_flat_cases (pairs_of R) (numbers N 0) pair i in
      let v : (m : ℕ) × In m (greater_conflicts R w.0) × (pair ≡ pair_of w.0 m) = In_map_cases (pair_of w.0) (greater_conflicts R w.0) pair w.2 in
      subst (λ (x : Pair). In x.high (conflicts_of R x.low)) (sym v.2) (filter_cases (λ m. ltb w.0 m) (conflicts_of R w.0) v.0 v.1).0

  pub high_low : (pair : Pair) → In pair pairs → pair.high < N
  high_low pair i = low pair.low pair.high (of_pair pair i)

  unpaired : (p q : ℕ) → are_paired pairs p q ≡ true → In q (conflicts_of R p)
  unpaired p q h =
      let w : (pair : Pair) × In pair pairs × (((pair.low ≡ p) × (pair.high ≡ q)) ⊎ ((pair.low ≡ q) × (pair.high ≡ p))) = paired_cases pairs p q h in
      let i : In w.0.high (conflicts_of R w.0.low) = of_pair w.0 w.1 in
      elim w.2 [
        | inl e ↦ subst (λ k. In q (conflicts_of R k)) e.0 (subst (λ k. In k (conflicts_of R w.0.low)) e.1 i)
        | inr e ↦ turned q p (subst (λ k. In p (conflicts_of R k)) e.0 (subst (λ k. In k (conflicts_of R w.0.low)) e.1 i))
      ]

  pub conflicts_retold : R.conflicts ≡ lists_of_pairs pairs N
  unfolding lists_of_pairs
  conflicts_retold =
      let wanted : ℕ → List ℕ = λ p. filter (are_paired pairs p) (numbers N 0) in
      ext_get_or [] R.conflicts (map wanted (numbers N 0)) (size ∙ sym (length_numbers wanted N 0)) (λ p l.
      let within : p < N = subst (λ n. p < n) size l in
      let same : conflicts_of R p ≡ wanted p =
      ascending_same (conflicts_of R p) (wanted p) (conflicts.ascending p) (ascending_filter (are_paired pairs p) (numbers N 0) (numbers_ascending N 0))
      (λ q i. filter_from (are_paired pairs p) (numbers N 0) q (let b : q < N = low p q i in numbers_from N 0 q (omega arith) (omega arith)) (paired p q within i))
      (λ q i. unpaired p q (filter_cases (are_paired pairs p) (numbers N 0) q i).1) in
      same ∙ ap wanted (sym (zero-add p)) ∙ sym (at_numbers wanted [] N 0 p within))
