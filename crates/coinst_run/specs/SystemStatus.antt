-- The command that holds an installed system against an index.
use Rattle.std.specs.Prelude.{ℕ, Bool, List, map, Option, Some, None, Ok, Err}
use Rattle.relation_fields.specs.declared.packages.Home.{Home}
use Rattle.relation_fields.specs.declared.packages.PackageFacts.{PackageFacts}
use Rattle.repo_model.specs.{declared.fault.IndexFault.{IndexFault}, Repository.{suite_repository}}
use Rattle.suite_compare.specs.Asking.{verdict_in}
use Rattle.status_check.specs.Own.{foreign_count, own_home, own_packages, status_fault}
use Rattle.status_check.specs.{Report.{all_of, had_goals, line_for, state_of}, States.{set_state}}
use Rattle.status_check.specs.declared.report.StatusReport.{StatusReport}
use Rattle.coinst_run.specs.Answer.{Answer, CourseStage, reported, refused}
use Rattle.coinst_run.specs.{Course.{Course, answers, reads, then_on}, Faults.{fault_cause}}
use Rattle.coinst_run.specs.{Index.{Index}, IndexKernel.{ClassedKernel}, Kernel.{reads_kernel}}
use Rattle.coinst_run.specs.{Lines.{fault_line}, SystemText.{system_text, system_verdict}}

-- an installed system: its own packages, those of no other architecture than `all` and the home of
-- the index, with their home, and how many others there are
pub record System : Type 0 where
  pub home : Home
  pub packages : List PackageFacts
  pub foreign : ℕ

-- what a status file says of it
abbrev pub system_in : Home → List ℕ → System
system_in home text = record {
  home = own_home home text;
  packages = own_packages home text;
  foreign = foreign_count home text;
}

-- a status file by its first fault, if there is one
abbrev pub system_by_fault : List ℕ → Home → List ℕ → Option IndexFault → CourseStage System
system_by_fault path home text None = Ok (system_in home text)
system_by_fault path home text (Some fault) =
    Err (refused (fault_cause fault) (fault_line path fault))

abbrev pub checked_system : List ℕ → Home → List ℕ → CourseStage System
checked_system path home text = system_by_fault path home text (status_fault home text)

-- what is said of a system against an index, at a clause limit, with hold or without
unfoldable pub system_report : ℕ → ℕ → Bool → Index → System → StatusReport
system_report budget limit hold index system = record {
  lines = map (line_for index.packages) system.packages;
  foreign = system.foreign;
  own = set_state (suite_repository system.home system.packages) (all_of system.packages);
  verdict = state_of budget (verdict_in limit hold index.home index.packages budget
      (had_goals index.packages system.packages));
}

abbrev pub told_answer : ℕ → StatusReport → Answer
told_answer budget report =
    reported (system_verdict report.own report.verdict) (system_text budget report)

-- what is answered to the text of a status file
abbrev pub system_answer : List ℕ → ℕ → ℕ → Bool → Index → List ℕ → Course
system_answer path budget limit hold index text =
    then_on (checked_system path index.home text) (λ system.
    answers (told_answer budget (system_report budget limit hold index system)))

-- after the index and its kernel, the status file
abbrev pub system_course : List ℕ → ℕ → ℕ → Bool → Index → ClassedKernel → Course
system_course path budget limit hold index kernel =
    reads path (system_answer path budget limit hold index)

abbrev pub status_course : List ℕ → List ℕ → ℕ → ℕ → Bool → Course
status_course file index budget limit hold =
    reads_kernel index limit hold (system_course file budget limit hold)
