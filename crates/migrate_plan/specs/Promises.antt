-- What a plan means for the two indexes.
use Rattle.std.specs.Prelude.{◌≡◌, ◌≢◌, ℕ, false, List, [], ◌∷◌, ◌++◌, Some, None}
use Rattle.row_book.specs.Rounds.{PassedRound}
use Rattle.listed.specs.Lists.{In}
use Rattle.repo_model.specs.FirstFault.{first_fault}
use Rattle.suite_compare.specs.{Refusals.{packages_in}, declared.report.ReportLine.{ReportLine}}
use Rattle.suite_compare.specs.Indexes.{SearchedIndex, searched}
use Rattle.suite_compare.specs.Listing.{LosesNothing, is_broken}
use Rattle.migrate_plan.specs.{Differing.{differing}, Mix.{mix}}
use Rattle.migrate_plan.specs.Plan.{Settings, lines_between, passed_in, taken_in, tried_mix}
use Rattle.migrate_plan.specs.declared.plan.PlanLine.{PlanLine}
use Rattle.migrate_plan.specs.declared.plan.PlanLine.TheVariants.{Take, LeftLimit, LeftLine}

-- every mix of names that differ is an accepted index
abbrev pub MixesAreIndexes : List ℕ → List ℕ → Type 0
MixesAreIndexes old new = (taken : List (List ℕ)) →
    ((name : List ℕ) → In name taken → In name (differing (packages_in old) (packages_in new)))
    → first_fault (mix old new taken) ≡ None

abbrev pub planned_name : PlanLine → List ℕ
planned_name (Take name) = name
planned_name (LeftLimit name) = name
planned_name (LeftLine name line) = name

-- By the mix that was tried: a name is taken if the mix is within the limit and has no line against
-- the old index. It is left if the mix passes the limit, or if it is within the limit and has a
-- line, with the first line.
abbrev pub IsRight : Settings → List ℕ → List ℕ → PlanLine → Type 0
IsRight settings old tried (Take name) =
    (passed_in settings tried ≡ None) × (lines_between settings old tried ≡ [])
IsRight settings old tried (LeftLimit name) =
    (passed : PassedRound) × (passed_in settings tried ≡ Some passed)
IsRight settings old tried (LeftLine name line) = (more : List ReportLine)
    × (passed_in settings tried ≡ None) × (lines_between settings old tried ≡ line ∷ more)

-- so it is with each line, by the mix of its name and the names that the lines before it take
abbrev pub AreRight : Settings → List ℕ → List ℕ → List PlanLine → List PlanLine → Type 0
AreRight settings old new before [] = Unit {0}
AreRight settings old new before (line ∷ more) =
    IsRight settings old (tried_mix old new before (planned_name line)) line
    × AreRight settings old new (before ++ line ∷ []) more

-- an index, and how a plan searches in it
abbrev pub searched_by : Settings → List ℕ → SearchedIndex
searched_by settings text = searched text settings.budget settings.limit settings.hold

-- The mix of the names that are taken has no broken line against the old index. If a name is taken,
-- it has no line at all, and it can install each name of both, and each two of them together, that
-- the old index can.
pub record TakesSafely (settings : Settings) (old new : List ℕ)
    (lines : List PlanLine) : Type 0 where
  pub unbroken : (line : ReportLine) →
      In line (lines_between settings old (mix old new (taken_in lines))) → is_broken line ≡ false
  pub silent : taken_in lines ≢ [] → lines_between settings old (mix old new (taken_in lines)) ≡ []
  pub keeps : taken_in lines ≢ [] →
      LosesNothing (searched_by settings old) (searched_by settings (mix old new (taken_in lines)))
