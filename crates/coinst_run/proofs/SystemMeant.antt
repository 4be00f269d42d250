-- What the report on an installed system means.
use Rattle.std.proofs.Common.{◌≡◌, ℕ, Bool, List, [], ◌∷◌, Option, Some, None, ap, refl, ◌∙◌}
use Rattle.byte_flow.specs.History.{OpenedFile}
use Rattle.repo_model.specs.declared.fault.IndexFault.{IndexFault}
use Rattle.status_check.specs.{Own.{own_home, own_packages, status_fault}, Report.{had_goals}, declared.report.StatusReport.{StatusReport}}
use Rattle.status_check.proofs.{Judging.{judged, told_healthy}, OwnStates.{own_there}}
use Rattle.suite_compare.specs.Refusals.{home_in, packages_in}
use Rattle.coinst_run.specs.{declared.answer.ReportVerdict.{ReportVerdict}, Answer.{reported}, Course.{answers, then_on}, Index.{Index, index_in}}
use Rattle.coinst_run.specs.SystemMeaning.{SystemIsMeant, SystemMeans}
use Rattle.coinst_run.specs.SystemStatus.{system_answer, system_by_fault, system_course, system_in, system_report, told_answer}
use Rattle.coinst_run.proofs.{AnswerMeant.{told_means}, Given.{Reported, at_end, file_read, kernel_read}}

-- a status file that is read and told
module _ (path : List ℕ) (budget limit : ℕ) (hold : Bool) (index : Index) (readings : List OpenedFile) (verdict : ReportVerdict) (printed : List ℕ) where
  abbrev told : List ℕ → StatusReport
  told text = system_report budget limit hold index (system_in index.home text)

  abbrev IsTold : List ℕ → Type 0
  IsTold text = (status_fault index.home text ≡ None) × (readings ≡ []) × (told_answer budget (told text) ≡ reported verdict printed)

  checked : (text : List ℕ) (fault : Option IndexFault) → status_fault index.home text ≡ fault
      → Reported verdict printed (then_on (system_by_fault path index.home text fault) (λ system. answers (told_answer budget (system_report budget limit hold index system)))) readings → IsTold text
  checked text (Some fault) is g = absurd (let e = (at_end verdict printed _ readings g).1 in let no : ⊥ = cc in no)
  checked text None is g = let e = at_end verdict printed (told_answer budget (told text)) readings g in (is, e.0, e.1)

pub system_is_meant : SystemIsMeant
unfolding system_report
system_is_meant file index budget limit hold readings verdict printed e =
    let first = kernel_read verdict printed index limit hold (system_course file budget limit hold) readings e in
    let suite = first.0 in
    let second = file_read verdict printed file (system_answer file budget limit hold (index_in suite)) first.1 first.4 in
    let text = second.0 in
    let told = checked file budget limit hold (index_in suite) second.1 verdict printed text (status_fault (home_in suite) text) refl second.3 in
    let report : StatusReport = system_report budget limit hold (index_in suite) (system_in (home_in suite) text) in
    let home = own_home (home_in suite) text in
    let packages = own_packages (home_in suite) text in (
      suite,
      text,
      first.2 ∙ ap (λ rest. (index, suite) ∷ rest) (second.2 ∙ ap (λ rest. (file, text) ∷ rest) told.1),
      told_means (SystemMeans suite text budget limit hold) (told_answer budget report) verdict printed told.2 record {
        accepted = first.3;
        faultless = told.0;
        report = report;
        has = refl;
        foreign = refl;
        own = own_there home packages;
        healthy = told_healthy home packages report.own (own_there home packages);
        decided = refl;
        judged = judged limit hold (home_in suite) (packages_in suite) budget (had_goals (packages_in suite) packages) report.verdict refl;
        reads = refl;
        whole = refl;
      },
    )
