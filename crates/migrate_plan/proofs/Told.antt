-- Of an index against itself nothing is broken.
use Rattle.std.proofs.Common.{◌≡◌, ℕ, false, List, [], ◌∷◌, ap, inl, inr}
use Rattle.std.specs.{Prelude.{filter}, List.{flat_map}}
use Rattle.clause_solver.specs.{declared.outcomes.Verdict.{Verdict}, declared.outcomes.Verdict.TheVariants.{Yes, No, Spent}}
use Rattle.listed.specs.Lists.{In}
use Rattle.listed.proofs.Lists.{In_append_cases, In_cases, In_none}
use Rattle.repo_model.specs.{Goals.{any_version}, declared.goals.Goal.{Goal}}
use Rattle.suite_compare.specs.{Report.{finding, is_yes, pair_line, report, single_line, with_later}, declared.report.ReportLine.{ReportLine}}
use Rattle.suite_compare.specs.Listing.{is_broken}

-- nothing is broken where the verdicts are the same
single_same : (name : List ℕ) (v : Verdict) (line : ReportLine) → In line (single_line name (finding v v)) → is_broken line ≡ false
single_same name Yes line i = absurd (In_none i)
single_same name No line i = absurd (In_none i)
single_same name Spent line i = elim (In_cases i) [ inl is ↦ ap is_broken is | inr none ↦ absurd (In_none none) ]

pair_same : (first second : List ℕ) (v : Verdict) (line : ReportLine) → In line (pair_line first second (finding v v)) → is_broken line ≡ false
pair_same first second Yes line i = absurd (In_none i)
pair_same first second No line i = absurd (In_none i)
pair_same first second Spent line i = elim (In_cases i) [ inl is ↦ ap is_broken is | inr none ↦ absurd (In_none none) ]

flat_unbroken : {A : Type 0} (f : A → List ReportLine) → ((a : A) (line : ReportLine) → In line (f a) → is_broken line ≡ false) → (xs : List A) (line : ReportLine) → In line (flat_map f xs) → is_broken line ≡ false
flat_unbroken f each [] line i = absurd (In_none i)
flat_unbroken f each (x ∷ xs) line i = elim (In_append_cases (f x) (flat_map f xs) line i) [ inl j ↦ each x line j | inr j ↦ flat_unbroken f each xs line j ]

later_unbroken : {A : Type 0} (g : A → A → List ReportLine) → ((a b : A) (line : ReportLine) → In line (g a b) → is_broken line ≡ false) → (xs : List A) (line : ReportLine) → In line (with_later g xs) → is_broken line ≡ false
later_unbroken g each [] line i = absurd (In_none i)
later_unbroken g each (x ∷ xs) line i = elim (In_append_cases (flat_map (g x) xs) (with_later g xs) line i) [
  | inl j ↦ flat_unbroken (g x) (each x) xs line j
  | inr j ↦ later_unbroken g each xs line j
]

-- an index against itself
pub unbroken_same : (v : List Goal → Verdict) (names : List (List ℕ)) (line : ReportLine) → In line (report v v names) → is_broken line ≡ false
unbroken_same v names line i =
    let single = λ (a : List ℕ). single_line a (finding (v (any_version a ∷ [])) (v (any_version a ∷ []))) in
    let pair = λ (a b : List ℕ). pair_line a b (finding (v (any_version a ∷ (any_version b ∷ []))) (v (any_version a ∷ (any_version b ∷ [])))) in
    elim (In_append_cases (flat_map single names) (with_later pair (filter (λ a. is_yes (v (any_version a ∷ []))) names)) line i) [
      | inl j ↦ flat_unbroken single (λ a. single_same a (v (any_version a ∷ []))) names line j
      | inr j ↦ later_unbroken pair (λ a b. pair_same a b (v (any_version a ∷ (any_version b ∷ [])))) (filter (λ a. is_yes (v (any_version a ∷ []))) names) line j
    ]
