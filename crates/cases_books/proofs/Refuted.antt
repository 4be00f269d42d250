-- Laws that read almost as those of flattening and do not hold, each with a repository that shows it.
use Rattle.std.proofs.Common.{◌≡◌, ◌≢◌, ℕ, ◌<◌, true, false, List, [], ◌∷◌, ◌⊎◌, ◌↔◌, inl, inr, length, refl, sym, subst, arith}
use Rattle.std.proofs.lemmas.Bool.{both_ways, cases_eq, false≢true, ltb-true}
use Rattle.row_book.specs.{Sets.{NumSet, Is, Hit, plus, without}, Repository.{Repository, Coinst, clauses_of, against}, Numbers.{nonempty_from, subsets}}
use Rattle.row_book.specs.{Support.{Support, IsRow, supports, is_supported, blocks, is_minimal_block, row}, Sound.{OfPackages}, Flattening.{all_packages}}
use Rattle.listed.specs.Lists.{In, here, has}
use Rattle.clause_pool.specs.Clauses.{minimal_of}
use Rattle.listed.proofs.Lists.{In_cases, In_none, has_In}
use Rattle.clause_families.specs.Unions.{all_unions_for}
use Rattle.clause_flatten.specs.Laws.{FlattenedBy}
use Rattle.clause_flatten.proofs.Rows.{support_from, support_test, row_is}

-- `a: Depends b`, `b: Depends a`
circle : Repository
circle = record { clauses = ((1 ∷ []) ∷ []) ∷ ((0 ∷ []) ∷ []) ∷ []; conflicts = [] ∷ [] ∷ [] }

none : NumSet
none n = false

-- the law of one step where p is not put in for the support of q
abbrev StepWithoutUser : Type 0
StepWithoutUser = (R : Repository) (V : NumSet) (p q : ℕ) (X : NumSet) → p < length R.clauses → q < length R.clauses → V q ≡ true →
    (Support R (without V q) p X ↔ (Support R V p X ⊎ (Support R V p (plus X q) × Support R V q X)))

not_supported : (V : NumSet) (p : ℕ) (X : NumSet) → is_supported circle V p X ≡ false → Support circle V p X → ⊥
not_supported V p X e s = both_ways (is_supported circle V p X) e (support_test circle V p X s)

pub step_wants_the_user : StepWithoutUser → ⊥
unfolding circle none is_supported supports subsets nonempty_from
step_wants_the_user law =
    let V : NumSet = all_packages circle in
    elim ((law circle V 0 1 none (omega arith) (omega arith) refl).0 (support_from circle (without V 1) 0 none refl)) [
      | inl s ↦ not_supported V 0 none refl s
      | inr w ↦ not_supported V 1 none refl w.1
    ]

-- substitution that keeps the clauses which hold p
abbrev SubstitutesAll : Type 0
SubstitutesAll = (R : Repository) (V : NumSet) (p q : ℕ) (A B : List (List ℕ)) → OfPackages R V → p < length R.clauses → V q ≡ true → p ≢ q →
    IsRow R V p A → IsRow R V q B → IsRow R (without V q) p (minimal_of (all_unions_for q A B))

circle_bound : OfPackages circle (all_packages circle)
circle_bound n h = ltb-true n (length circle.clauses) h

pub substitution_drops_the_user : SubstitutesAll → ⊥
unfolding circle row is_minimal_block blocks is_supported supports subsets nonempty_from
substitution_drops_the_user law =
    let V : NumSet = all_packages circle in
    let r : IsRow circle (without V 1) 0 ((0 ∷ []) ∷ []) =
    law circle V 0 1 (row circle V 0) (row circle V 1) circle_bound (omega arith) refl (λ e. omega (arith, e)) (row_is circle V 0 circle_bound) (row_is circle V 1 circle_bound) in
    (r.sound (0 ∷ []) here).blocks.apart 0 here refl

-- keeping every set where V need not have the packages with conflicts
abbrev KeepsWithoutConflicts : Type 0
KeepsWithoutConflicts = (R : Repository) (V : NumSet) (F : Repository) → OfPackages R V → FlattenedBy R V F → (S : NumSet) → (Coinst R S ↔ Coinst F S)

-- `a: Depends b; Conflicts b`, `b`
in_conflict : Repository
in_conflict = record { clauses = ((1 ∷ []) ∷ []) ∷ [] ∷ []; conflicts = (1 ∷ []) ∷ (0 ∷ []) ∷ [] }

-- with both taken out
bare : Repository
bare = record { clauses = [] ∷ [] ∷ []; conflicts = (1 ∷ []) ∷ (0 ∷ []) ∷ [] }

none_bound : OfPackages in_conflict none
unfolding none
none_bound n h = absurd (false≢true h)

bare_rows : (p : ℕ) → p < 2 → IsRow in_conflict none p (clauses_of bare p)
unfolding in_conflict bare none row is_minimal_block blocks is_supported supports subsets nonempty_from
bare_rows p l =
    elim (cases_eq p 0) [
      | inl e ↦ subst (λ z. IsRow in_conflict none z (clauses_of bare z)) (sym e) (row_is in_conflict none 0 none_bound)
      | inr ne ↦ let e : p ≡ 1 = omega (arith, ne) in subst (λ z. IsRow in_conflict none z (clauses_of bare z)) (sym e) (row_is in_conflict none 1 none_bound)
    ]

first_alone : (n : ℕ) → Is (has (0 ∷ [])) n → n ≡ 0
first_alone n h = elim (In_cases (has_In (0 ∷ []) n h)) [ inl e ↦ e | inr j ↦ absurd (In_none j) ]

bare_first : Coinst bare (has (0 ∷ []))
unfolding bare
bare_first = record {
  whole = has (0 ∷ []);
  healthy = record {
    packages = λ n h. let e : n ≡ 0 = first_alone n h in omega arith;
    abundance = λ n h c i. absurd (In_none (subst (λ z. In c (clauses_of bare z)) (first_alone n h) i));
    peace = λ m n h k. subst (λ z. against bare z n ≡ false) (sym (first_alone m h)) (subst (λ z. against bare 0 z ≡ false) (sym (first_alone n k)) refl);
  };
  contains = λ n h. h;
}

in_conflict_first : Coinst in_conflict (has (0 ∷ [])) → ⊥
unfolding in_conflict
in_conflict_first s =
    let i : Is s.whole 0 = s.contains 0 refl in
    let hit : Hit (Is s.whole) (1 ∷ []) = s.healthy.abundance 0 i (1 ∷ []) here in
    let j : Is s.whole 1 = elim (In_cases hit.inside) [ inl e ↦ subst (Is s.whole) e hit.alive | inr k ↦ absurd (In_none k) ] in
    both_ways (against in_conflict 0 1) (s.healthy.peace 0 1 i j) refl

pub keeping_wants_the_conflicts : KeepsWithoutConflicts → ⊥
unfolding in_conflict bare
keeping_wants_the_conflicts law =
    in_conflict_first ((law in_conflict none bare none_bound (record { size = refl; rows = bare_rows; conflicts = refl }) (has (0 ∷ []))).1 bare_first)
