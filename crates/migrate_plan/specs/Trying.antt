-- for the bodies of this crate alone
-- What is made on the way to a plan.
use Rattle.std.specs.Prelude.{◌≡◌, ℕ, Bool, List, [], drop, Option, Some, None}
use Rattle.row_book.specs.Rounds.{PassedRound, limit_at}
use Rattle.listed.specs.Lists.{In}
use Rattle.relation_fields.specs.declared.packages.Home.{Home}
use Rattle.relation_fields.specs.declared.packages.PackageFacts.{PackageFacts}
use Rattle.repo_model.specs.Repository.{suite_repository}
use Rattle.suite_compare.specs.{Asking.{verdict_in}, Names.{names_of_both}, Report.{report}}
use Rattle.suite_compare.specs.declared.report.ReportLine.{ReportLine}
use Rattle.suite_compare.specs.declared.view.SuiteView.{SuiteView}
use Rattle.migrate_plan.specs.Plan.{lines_behind, outcome_of, taken_in, Settings}
use Rattle.migrate_plan.specs.declared.plan.PlanLine.{PlanLine}

-- a view of packages that are within a clause limit, made at this limit, with hold or without
pub record IsMade (home : Home) (packages : List PackageFacts) (limit : ℕ) (hold : Bool)
    (view : SuiteView) : Type 0 where
  pub within : limit_at limit hold (suite_repository home packages) ≡ None
  pub packages_are : view.suite.packages ≡ packages
  pub home_is : view.suite.home ≡ home
  pub limit_is : view.limit ≡ limit
  pub hold_is : view.kernel.hold ≡ hold

-- a view of packages, or none if they pass the limit
abbrev pub IsViewAt : Home → List PackageFacts → ℕ → Bool → Option SuiteView → Type 0
IsViewAt home packages limit hold (Some view) = IsMade home packages limit hold view
IsViewAt home packages limit hold None =
    (passed : PassedRound) × (limit_at limit hold (suite_repository home packages) ≡ Some passed)

-- the report on packages against older ones
abbrev pub told_of : Settings → Home → List PackageFacts → Home →
    List PackageFacts → List ReportLine
told_of settings old_home old home packages = report
    (verdict_in settings.limit settings.hold old_home old settings.budget)
    (verdict_in settings.limit settings.hold home packages settings.budget)
    (names_of_both old packages)

-- what becomes of a name, if the mix that is tried has these packages
abbrev pub outcome_by : Settings → Home → List PackageFacts → Home →
    List PackageFacts → List ℕ → PlanLine
outcome_by settings old_home old home packages name =
    outcome_of name (limit_at settings.limit settings.hold (suite_repository home packages))
    (told_of settings old_home old home packages)

-- after some lines the names that are left lead to the whole plan
abbrev pub LeadsToPlan : (List PlanLine → List ℕ → PlanLine) → List (List ℕ) → ℕ →
    List PlanLine → Type 0
LeadsToPlan line names place lines =
    lines_behind line lines (drop place names) ≡ lines_behind line [] names

-- the names that some lines take, each of them one of those that differ
pub record AreTakenBy (lines : List PlanLine) (names taken : List (List ℕ)) : Type 0 where
  pub taken_is : taken ≡ taken_in lines
  pub among : (name : List ℕ) → In name taken → In name names
