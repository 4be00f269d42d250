-- What the report on an installed system means for the status file and the index.
use Rattle.std.specs.Prelude.{◌≡◌, ◌↔◌, ℕ, Bool, List, map, Some, None, [], ◌∷◌}
use Rattle.byte_flow.specs.History.{OpenedFile}
use Rattle.repo_model.specs.{FirstFault.{first_fault}, Repository.{suite_repository}}
use Rattle.repo_model.specs.Stanzas.{HealthyStanzas}
use Rattle.suite_compare.specs.{Asking.{verdict_in}, Refusals.{home_in, packages_in}}
use Rattle.status_check.specs.Own.{foreign_count, own_home, own_packages, status_fault}
use Rattle.status_check.specs.Report.{all_of, had_goals, line_for, state_of, HoldsInIndex}
use Rattle.status_check.specs.{Report.{IsStateOf}, declared.report.OwnState.TheVariants.{Healthy}}
use Rattle.status_check.specs.declared.report.StatusReport.{StatusReport}
use Rattle.coinst_run.specs.{declared.answer.ReportVerdict.{ReportVerdict}, Answer.{reported}}
use Rattle.coinst_run.specs.{Outcome.{GivesAnswer}, SystemStatus.{status_course}}
use Rattle.coinst_run.specs.SystemText.{system_text, system_verdict}

-- The suite is an index without a fault, and the status file has none against its home. The printed
-- bytes are a report. For each own package it says whether the index has it. It says how many
-- packages are foreign, whether the own packages are healthy, and whether those that the index has
-- can be installed from it together. The own packages are said to be healthy exactly if they are,
-- judged on their stanzas. After a yes some healthy set of the index has all that it has of them,
-- and after a no none does.
pub record SystemMeans (suite file : List ℕ) (budget limit : ℕ) (hold : Bool)
    (verdict : ReportVerdict) (printed : List ℕ) : Type 0 where
  pub accepted : first_fault suite ≡ None
  pub faultless : status_fault (home_in suite) file ≡ None
  pub report : StatusReport
  pub has : report.lines ≡ map (line_for (packages_in suite)) (own_packages (home_in suite) file)
  pub foreign : report.foreign ≡ foreign_count (home_in suite) file
  pub own : IsStateOf
      (suite_repository (own_home (home_in suite) file) (own_packages (home_in suite) file))
      (all_of (own_packages (home_in suite) file)) report.own
  pub healthy : (report.own ≡ Healthy) ↔ HealthyStanzas (own_home (home_in suite) file)
      (own_packages (home_in suite) file) (all_of (own_packages (home_in suite) file))
  pub decided : report.verdict ≡ state_of budget
      (verdict_in limit hold (home_in suite) (packages_in suite) budget
      (had_goals (packages_in suite) (own_packages (home_in suite) file)))
  pub judged : HoldsInIndex (home_in suite) (packages_in suite)
      (had_goals (packages_in suite) (own_packages (home_in suite) file)) report.verdict
  pub reads : printed ≡ system_text budget report
  pub whole : verdict ≡ system_verdict report.own report.verdict

-- what is reported of two files means this for their texts
abbrev pub SystemIsMeant : Type 0
SystemIsMeant = (file index : List ℕ) (budget limit : ℕ) (hold : Bool) (readings : List OpenedFile)
    (verdict : ReportVerdict) (printed : List ℕ) →
    GivesAnswer (status_course file index budget limit hold) readings (reported verdict printed) →
    (suite text : List ℕ) × (readings ≡ (index, suite) ∷ (file, text) ∷ [])
    × SystemMeans suite text budget limit hold verdict printed
