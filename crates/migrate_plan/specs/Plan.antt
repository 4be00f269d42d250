-- The plan by which names are taken over from a new index into an old one, one after the other, if
-- nothing breaks.
use Rattle.std.specs.Prelude.{ℕ, Bool, List, [], ◌∷◌, ◌++◌, Option, Some, None}
use Rattle.row_book.specs.Rounds.{PassedRound, limit_at}
use Rattle.repo_model.specs.Repository.{suite_repository}
use Rattle.suite_compare.specs.{Asking.{verdict_in}, Names.{names_of_both}}
use Rattle.suite_compare.specs.{Refusals.{home_in, packages_in}, Report.{report}}
use Rattle.suite_compare.specs.declared.report.ReportLine.{ReportLine}
use Rattle.migrate_plan.specs.{Differing.{differing}, Mix.{mix}, declared.plan.PlanLine.{PlanLine}}
use Rattle.migrate_plan.specs.declared.plan.PlanLine.TheVariants.{Take, LeftLimit, LeftLine}

-- the budget, the clause limit and hold at which indexes are compared
pub record Settings : Type 0 where
  pub budget : ℕ
  pub limit : ℕ
  pub hold : Bool

abbrev pub plan_settings : ℕ → ℕ → Bool → Settings
plan_settings budget limit hold = record { budget = budget; limit = limit; hold = hold }

-- the round and the row in which an index passes the clause limit, if it does
unfoldable pub passed_in : Settings → List ℕ → Option PassedRound
passed_in settings text =
    limit_at settings.limit settings.hold (suite_repository (home_in text) (packages_in text))

-- the list of what a newer index has broken of an older one, or left open
unfoldable pub lines_between : Settings → List ℕ → List ℕ → List ReportLine
lines_between settings old new = report
    (verdict_in settings.limit settings.hold (home_in old) (packages_in old) settings.budget)
    (verdict_in settings.limit settings.hold (home_in new) (packages_in new) settings.budget)
    (names_of_both (packages_in old) (packages_in new))

-- What becomes of a name. It is left if the mix with it passes the limit. Else it is left if the
-- list has a line, with the first line, and taken if it has none.
abbrev pub outcome_of : List ℕ → Option PassedRound → List ReportLine → PlanLine
outcome_of name (Some passed) lines = LeftLimit name
outcome_of name None (line ∷ more) = LeftLine name line
outcome_of name None [] = Take name

-- the names that some lines take, in their order
abbrev pub taken_in : List PlanLine → List (List ℕ)
taken_in [] = []
taken_in (Take name ∷ more) = name ∷ taken_in more
taken_in (LeftLimit name ∷ more) = taken_in more
taken_in (LeftLine name line ∷ more) = taken_in more

-- the mix that is tried for a name after some lines: of the names that these take, and the name
abbrev pub tried_mix : List ℕ → List ℕ → List PlanLine → List ℕ → List ℕ
tried_mix old new lines name = mix old new (taken_in lines ++ name ∷ [])

-- the line of a name after others
unfoldable pub line_behind : Settings → List ℕ → List ℕ → List PlanLine → List ℕ → PlanLine
line_behind settings old new lines name =
    outcome_of name (passed_in settings (tried_mix old new lines name))
    (lines_between settings old (tried_mix old new lines name))

-- some lines, followed by the lines of the names, one after the other
abbrev pub lines_behind : (List PlanLine → List ℕ → PlanLine) → List PlanLine →
    List (List ℕ) → List PlanLine
lines_behind line lines [] = lines
lines_behind line lines (name ∷ more) = lines_behind line (lines ++ line lines name ∷ []) more

-- the plan: the lines of the names that differ, ascending by bytes
unfoldable pub plan : Settings → List ℕ → List ℕ → List PlanLine
plan settings old new =
    lines_behind (line_behind settings old new) [] (differing (packages_in old) (packages_in new))
