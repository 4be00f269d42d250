-- What a comparison of two suites says, by the verdicts on their names and pairs of names.
use Rattle.std.specs.Prelude.{ℕ, Bool, true, false, List, [], ◌∷◌, ◌++◌, filter, Option, Some, None}
use Rattle.std.specs.List.{flat_map}
use Rattle.clause_solver.specs.declared.outcomes.Verdict.{Verdict}
use Rattle.clause_solver.specs.declared.outcomes.Verdict.TheVariants.{Yes, No, Spent}
use Rattle.repo_model.specs.{Goals.{any_version}, declared.goals.Goal.{Goal}}
use Rattle.suite_compare.specs.declared.report.Finding.{Finding}
use Rattle.suite_compare.specs.declared.report.Finding.TheVariants.{Broken, Open}
use Rattle.suite_compare.specs.declared.report.ReportLine.{ReportLine}
use Rattle.suite_compare.specs.declared.report.ReportLine.TheVariants.{Broken1, Broken2, Open1}
use Rattle.suite_compare.specs.declared.report.ReportLine.TheVariants.{Open2}

-- By the verdict in the old and then in the new suite. Broken: it was yes and is no. Open: the new
-- search spent its budget, or the new one refutes and the old one spent its budget.
abbrev pub finding : Verdict → Verdict → Option Finding
finding old Yes = None
finding Yes No = Some Broken
finding No No = None
finding Spent No = Some Open
finding old Spent = Some Open

-- the line of a single name, if there is a finding
abbrev pub single_line : List ℕ → Option Finding → List ReportLine
single_line name None = []
single_line name (Some Broken) = Broken1 name ∷ []
single_line name (Some Open) = Open1 name ∷ []

-- the line of two names, if there is a finding on them together
abbrev pub pair_line : List ℕ → List ℕ → Option Finding → List ReportLine
pair_line first second None = []
pair_line first second (Some Broken) = Broken2 first second ∷ []
pair_line first second (Some Open) = Open2 first second ∷ []

abbrev pub is_yes : Verdict → Bool
is_yes Yes = true
is_yes No = false
is_yes Spent = false

-- for each item in turn, its lines with each item after it
abbrev pub with_later : {A : Type 0} → (A → A → List ReportLine) → List A → List ReportLine
with_later lines [] = []
with_later lines (a ∷ rest) = flat_map (lines a) rest ++ with_later lines rest

-- A line for each name with a finding, in the order of the names. Then a line for each pair with a
-- finding, of the names whose verdict alone in the new suite is yes. The functions give the
-- verdicts on goals.
abbrev pub report : (List Goal → Verdict) → (List Goal → Verdict) → List (List ℕ) → List ReportLine
report old new names =
    flat_map
    (λ a. single_line a (finding (old (any_version a ∷ [])) (new (any_version a ∷ [])))) names
    ++ with_later (λ a b. pair_line a b
    (finding (old (any_version a ∷ (any_version b ∷ [])))
    (new (any_version a ∷ (any_version b ∷ [])))))
    (filter (λ a. is_yes (new (any_version a ∷ []))) names)

-- the first of some lines, if there is one
abbrev pub first_told : List ReportLine → Option ReportLine
first_told [] = None
first_told (line ∷ more) = Some line
