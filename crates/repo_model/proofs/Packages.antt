-- The clauses and conflicts of the repository of an index, by its stanzas.
use Rattle.std.proofs.Common.{◌≡◌, ◌≢◌, ℕ, ◌+◌, ◌<◌, ◌≤◌, Bool, true, not, ◌||◌, eqb, List, [], length, ◌⊎◌, inl, inr, sym, subst, arith, map, filter}
use Rattle.std.proofs.lemmas.Bool.{cases_lt, and_parts, and_from, or_cases, or_left, or_right, not-true, not_from_false, eqb-false, ne_eqb}
use Rattle.std.proofs.{lemmas.List.{get_or_past}, lemmas.List.FromFn.{length-map-range_with_len, get_or-map-range_with_len}}
use Rattle.std.specs.Str.{bytes_eq}
use Rattle.repo_model.specs.Repository.{packages_of, meets_any, clause_of, row_of, stands_against, in_conflict, conflicting_with, suite_repository}
use Rattle.repo_model.specs.Stanzas.{stanza_at}
use Rattle.relation_fields.specs.{declared.packages.Home.{Home}, declared.packages.PackageFacts.{PackageFacts}, declared.relations.Atom.{Atom}}
use Rattle.row_book.specs.Repository.{clauses_of, conflicts_of, against}
use Rattle.listed.specs.Lists.{In}
use Rattle.listed.proofs.Lists.{In_none, In_has, has_In, In_map, In_map_cases, filter_from, filter_cases}
use Rattle.clause_pool.proofs.Order.{ordered_parts, ordered_has}
use Rattle.repo_model.proofs.Elements.{range_from, range_cases}

module _ (stanzas : List PackageFacts) where
  -- a number that passes a test of packages
  pub chosen_cases : (p : ℕ → Bool) (n : ℕ) → In n (filter p (packages_of stanzas)) → (n < length stanzas) × (p n ≡ true)
  chosen_cases p n i =
      let w : In n (packages_of stanzas) × (p n ≡ true) = filter_cases p (packages_of stanzas) n i in
      let r : (0 ≤ n) × (n < 0 + length stanzas) = range_cases (length stanzas) 0 n w.0 in
      (omega arith, w.1)

  pub chosen_from : (p : ℕ → Bool) (n : ℕ) → n < length stanzas → p n ≡ true → In n (filter p (packages_of stanzas))
  chosen_from p n l h = filter_from p (packages_of stanzas) n (range_from (length stanzas) 0 n (omega arith) (omega arith)) h

module _ (home : Home) (stanzas : List PackageFacts) where
  pub length_clauses : length (suite_repository home stanzas).clauses ≡ length stanzas
  unfolding suite_repository
  length_clauses = length-map-range_with_len (λ n. row_of home stanzas (stanza_at stanzas n)) 0 (length stanzas)

  pub length_conflicts : length (suite_repository home stanzas).conflicts ≡ length stanzas
  unfolding suite_repository
  length_conflicts = length-map-range_with_len (conflicting_with home stanzas) 0 (length stanzas)

  pub clauses_at : (n : ℕ) → n < length stanzas → clauses_of (suite_repository home stanzas) n ≡ row_of home stanzas (stanza_at stanzas n)
  unfolding suite_repository
  clauses_at n l = get_or-map-range_with_len (λ n. row_of home stanzas (stanza_at stanzas n)) 0 (length stanzas) n n [] l (omega arith)

  pub clauses_past : (n : ℕ) → length stanzas ≤ n → clauses_of (suite_repository home stanzas) n ≡ []
  clauses_past n l = get_or_past (suite_repository home stanzas).clauses n [] (omega (arith, length_clauses))

  pub conflicts_at : (n : ℕ) → n < length stanzas → conflicts_of (suite_repository home stanzas) n ≡ conflicting_with home stanzas n
  unfolding suite_repository
  conflicts_at n l = get_or-map-range_with_len (conflicting_with home stanzas) 0 (length stanzas) n n [] l (omega arith)

  pub conflicts_past : (n : ℕ) → length stanzas ≤ n → conflicts_of (suite_repository home stanzas) n ≡ []
  conflicts_past n l = get_or_past (suite_repository home stanzas).conflicts n [] (omega (arith, length_conflicts))

  -- the packages of an element's clause
  pub literal_cases : (element : List Atom) (n : ℕ) → In n (clause_of home stanzas element) → (n < length stanzas) × (meets_any home element (stanza_at stanzas n) ≡ true)
  literal_cases element n i = chosen_cases stanzas (λ n. meets_any home element (stanza_at stanzas n)) n i

  pub literal_from : (element : List Atom) (n : ℕ) → n < length stanzas → meets_any home element (stanza_at stanzas n) ≡ true → In n (clause_of home stanzas element)
  literal_from element n l h = chosen_from stanzas (λ n. meets_any home element (stanza_at stanzas n)) n l h

  -- the clauses of a package are those of its elements
  pub clause_cases : (n : ℕ) (c : List ℕ) → In c (clauses_of (suite_repository home stanzas) n) →
      (element : List Atom) × In element (stanza_at stanzas n).needs × (c ≡ clause_of home stanzas element)
  clause_cases n c i =
      elim (cases_lt n (length stanzas)) [
        | inl l ↦ In_map_cases (clause_of home stanzas) (stanza_at stanzas n).needs c
            (ordered_parts (map (clause_of home stanzas) (stanza_at stanzas n).needs) c (subst (λ cs. In c cs) (clauses_at n l) i))
        | inr g ↦ absurd (In_none (subst (λ cs. In c cs) (clauses_past n g) i))
      ]

  pub clause_from : (n : ℕ) (element : List Atom) → n < length stanzas → In element (stanza_at stanzas n).needs →
      In (clause_of home stanzas element) (clauses_of (suite_repository home stanzas) n)
  clause_from n element l i =
      subst (λ cs. In (clause_of home stanzas element) cs) (sym (clauses_at n l))
      (ordered_has (map (clause_of home stanzas) (stanza_at stanzas n).needs) (clause_of home stanzas element)
      (In_map (clause_of home stanzas) (stanza_at stanzas n).needs element i))

  -- the conflicts of a package are the packages that conflict with it
  pub against_cases : (m n : ℕ) → against (suite_repository home stanzas) m n ≡ true →
      (m < length stanzas) × (n < length stanzas) × (in_conflict home stanzas m n ≡ true)
  against_cases m n h =
      let i : In n (conflicts_of (suite_repository home stanzas) m) = has_In (conflicts_of (suite_repository home stanzas) m) n h in
      elim (cases_lt m (length stanzas)) [
        | inl l ↦
            let w : (n < length stanzas) × (in_conflict home stanzas m n ≡ true) = chosen_cases stanzas (in_conflict home stanzas m) n (subst (λ ns. In n ns) (conflicts_at m l) i) in
            (l, w.0, w.1)
        | inr g ↦ absurd (In_none (subst (λ ns. In n ns) (conflicts_past m g) i))
      ]

  pub against_from : (m n : ℕ) → m < length stanzas → n < length stanzas → in_conflict home stanzas m n ≡ true → against (suite_repository home stanzas) m n ≡ true
  against_from m n l k h = In_has (subst (λ ns. In n ns) (sym (conflicts_at m l)) (chosen_from stanzas (in_conflict home stanzas m) n k h))

  -- two packages are in conflict by their names, or by a conflict of one of them
  pub conflict_cases : (m n : ℕ) → in_conflict home stanzas m n ≡ true →
      (m ≢ n) × ((bytes_eq (stanza_at stanzas m).name (stanza_at stanzas n).name ≡ true) ⊎
      ((stands_against home (stanza_at stanzas m) (stanza_at stanzas n) ≡ true) ⊎ (stands_against home (stanza_at stanzas n) (stanza_at stanzas m) ≡ true)))
  conflict_cases m n h =
      let named : Bool = bytes_eq (stanza_at stanzas m).name (stanza_at stanzas n).name in
      let first : Bool = stands_against home (stanza_at stanzas m) (stanza_at stanzas n) in
      let second : Bool = stands_against home (stanza_at stanzas n) (stanza_at stanzas m) in
      let w : (not (eqb m n) ≡ true) × ((named || (first || second)) ≡ true) = and_parts (not (eqb m n)) (named || (first || second)) h in (
        eqb-false m n (not-true (eqb m n) w.0),
        elim (or_cases named (first || second) w.1) [
          | inl a ↦ inl a
          | inr b ↦ inr (or_cases first second b)
        ],
      )

  conflict_from : (m n : ℕ) → m ≢ n → (bytes_eq (stanza_at stanzas m).name (stanza_at stanzas n).name || (stands_against home (stanza_at stanzas m) (stanza_at stanzas n) || stands_against home (stanza_at stanzas n) (stanza_at stanzas m))) ≡ true →
      in_conflict home stanzas m n ≡ true
  conflict_from m n ne h =
      and_from (not (eqb m n)) (bytes_eq (stanza_at stanzas m).name (stanza_at stanzas n).name || (stands_against home (stanza_at stanzas m) (stanza_at stanzas n) || stands_against home (stanza_at stanzas n) (stanza_at stanzas m)))
      (not_from_false (eqb m n) (ne_eqb m n ne)) h

  pub conflict_by_name : (m n : ℕ) → m ≢ n → bytes_eq (stanza_at stanzas m).name (stanza_at stanzas n).name ≡ true → in_conflict home stanzas m n ≡ true
  conflict_by_name m n ne h =
      conflict_from m n ne (or_left (bytes_eq (stanza_at stanzas m).name (stanza_at stanzas n).name) (stands_against home (stanza_at stanzas m) (stanza_at stanzas n) || stands_against home (stanza_at stanzas n) (stanza_at stanzas m)) h)

  pub conflict_by_first : (m n : ℕ) → m ≢ n → stands_against home (stanza_at stanzas m) (stanza_at stanzas n) ≡ true → in_conflict home stanzas m n ≡ true
  conflict_by_first m n ne h =
      conflict_from m n ne (or_right (bytes_eq (stanza_at stanzas m).name (stanza_at stanzas n).name) (stands_against home (stanza_at stanzas m) (stanza_at stanzas n) || stands_against home (stanza_at stanzas n) (stanza_at stanzas m))
      (or_left (stands_against home (stanza_at stanzas m) (stanza_at stanzas n)) (stands_against home (stanza_at stanzas n) (stanza_at stanzas m)) h))

  pub conflict_by_second : (m n : ℕ) → m ≢ n → stands_against home (stanza_at stanzas n) (stanza_at stanzas m) ≡ true → in_conflict home stanzas m n ≡ true
  conflict_by_second m n ne h =
      conflict_from m n ne (or_right (bytes_eq (stanza_at stanzas m).name (stanza_at stanzas n).name) (stands_against home (stanza_at stanzas m) (stanza_at stanzas n) || stands_against home (stanza_at stanzas n) (stanza_at stanzas m))
      (or_right (stands_against home (stanza_at stanzas m) (stanza_at stanzas n)) (stands_against home (stanza_at stanzas n) (stanza_at stanzas m)) h))
