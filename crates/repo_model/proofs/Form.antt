-- The form of the repository of an index: its clauses are in order, ascending and of packages, and its conflicts are
-- ascending, either way round and between two packages.
use Rattle.std.proofs.{Common.{◌≡◌, ◌≢◌, ℕ, ◌<◌, true, List, length, ◌⊎◌, inl, inr, sym, ◌∙◌, subst, arith, map}, lemmas.Bool.{cases_lt}}
use Rattle.std.proofs.lemmas.Slice.Eq.{bytes_eq-Decides}
use Rattle.std.specs.Str.{bytes_eq}
use Rattle.relation_fields.specs.{declared.packages.Home.{Home}, declared.packages.PackageFacts.{PackageFacts}, declared.relations.Atom.{Atom}}
use Rattle.repo_model.specs.{Repository.{meets_any, packages_of, clause_of, stands_against, in_conflict, suite_repository}, Stanzas.{stanza_at}}
use Rattle.listed.specs.Lists.{Ascending, In}
use Rattle.clause_pool.specs.Lists.{InOrder}
use Rattle.row_book.specs.Repository.{clauses_of, conflicts_of, against}
use Rattle.listed.proofs.Orders.{ascending_filter}
use Rattle.clause_pool.proofs.Order.{ordered_order}
use Rattle.repo_model.proofs.Elements.{range_ascending}
use Rattle.repo_model.proofs.Packages.{length_clauses, length_conflicts, clauses_at, clauses_past, conflicts_at, conflicts_past, literal_cases, clause_cases}
use Rattle.repo_model.proofs.Packages.{against_cases, against_from, conflict_cases, conflict_by_name, conflict_by_first, conflict_by_second}

pub same_name : (a b : List ℕ) → bytes_eq a b ≡ true → bytes_eq b a ≡ true
same_name a b e = (bytes_eq-Decides b a).1 (sym ((bytes_eq-Decides a b).0 e))

module _ (home : Home) (stanzas : List PackageFacts) where
  -- a list of conflicts for each package
  pub form_lists : length (suite_repository home stanzas).conflicts ≡ length (suite_repository home stanzas).clauses
  form_lists = length_conflicts home stanzas ∙ sym (length_clauses home stanzas)

  pub clauses_order : (n : ℕ) → InOrder (clauses_of (suite_repository home stanzas) n)
  clauses_order n =
      elim (cases_lt n (length stanzas)) [
        | inl l ↦ subst InOrder (sym (clauses_at home stanzas n l)) (ordered_order (map (clause_of home stanzas) (stanza_at stanzas n).needs))
        | inr g ↦ subst InOrder (sym (clauses_past home stanzas n g)) tt
      ]

  -- each clause is ascending, and of packages
  pub clause_form : (n : ℕ) (c : List ℕ) → In c (clauses_of (suite_repository home stanzas) n) → Ascending c × ((l : ℕ) → In l c → l < length (suite_repository home stanzas).clauses)
  clause_form n c i =
      let w : (element : List Atom) × In element (stanza_at stanzas n).needs × (c ≡ clause_of home stanzas element) = clause_cases home stanzas n c i in
      subst (λ c. Ascending c × ((l : ℕ) → In l c → l < length (suite_repository home stanzas).clauses)) (sym w.2) (
        ascending_filter (λ n. meets_any home w.0 (stanza_at stanzas n)) (packages_of stanzas) (range_ascending (length stanzas) 0),
        λ l j.
            let p : (l < length stanzas) × (meets_any home w.0 (stanza_at stanzas l) ≡ true) = literal_cases home stanzas w.0 l j in
            omega (arith, length_clauses home stanzas),
      )

  pub conflicts_order : (n : ℕ) → Ascending (conflicts_of (suite_repository home stanzas) n)
  conflicts_order n =
      elim (cases_lt n (length stanzas)) [
        | inl l ↦ subst Ascending (sym (conflicts_at home stanzas n l)) (ascending_filter (in_conflict home stanzas n) (packages_of stanzas) (range_ascending (length stanzas) 0))
        | inr g ↦ subst Ascending (sym (conflicts_past home stanzas n g)) tt
      ]

  pub conflict_back : (m n : ℕ) → in_conflict home stanzas m n ≡ true → in_conflict home stanzas n m ≡ true
  conflict_back m n h =
      let k : (m ≢ n) × ((bytes_eq (stanza_at stanzas m).name (stanza_at stanzas n).name ≡ true) ⊎
      ((stands_against home (stanza_at stanzas m) (stanza_at stanzas n) ≡ true) ⊎ (stands_against home (stanza_at stanzas n) (stanza_at stanzas m) ≡ true))) =
      conflict_cases home stanzas m n h in
      let two : n ≢ m = λ e. k.0 (sym e) in
      elim k.1 [
        | inl e ↦ conflict_by_name home stanzas n m two (same_name (stanza_at stanzas m).name (stanza_at stanzas n).name e)
        | inr o ↦ elim o [
          | inl f ↦ conflict_by_second home stanzas n m two f
          | inr g ↦ conflict_by_first home stanzas n m two g
        ]
      ]

  -- conflicts are between packages
  pub conflict_packages : (m n : ℕ) → against (suite_repository home stanzas) m n ≡ true →
      (m < length (suite_repository home stanzas).clauses) × (n < length (suite_repository home stanzas).clauses)
  conflict_packages m n h =
      let w : (m < length stanzas) × (n < length stanzas) × (in_conflict home stanzas m n ≡ true) = against_cases home stanzas m n h in
      let k : m < length stanzas = w.0 in
      let l : n < length stanzas = w.1 in
      (omega (arith, length_clauses home stanzas), omega (arith, length_clauses home stanzas))

  -- either way round
  pub conflict_turned : (m n : ℕ) → against (suite_repository home stanzas) m n ≡ true → against (suite_repository home stanzas) n m ≡ true
  conflict_turned m n h =
      let w : (m < length stanzas) × (n < length stanzas) × (in_conflict home stanzas m n ≡ true) = against_cases home stanzas m n h in
      against_from home stanzas n m w.1 w.0 (conflict_back m n w.2)

  -- and between two packages
  pub conflict_two : (m n : ℕ) → against (suite_repository home stanzas) m n ≡ true → m ≢ n
  conflict_two m n h =
      let w : (m < length stanzas) × (n < length stanzas) × (in_conflict home stanzas m n ≡ true) = against_cases home stanzas m n h in
      (conflict_cases home stanzas m n w.2).0
