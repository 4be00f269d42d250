-- The report on an installed system, by what the call below answers.
use Rattle.std.proofs.{Common.{◌≡◌, ℕ, ◌<◌, Bool, List, length, map, Option, Some, None, sym, ap, ap₂, ◌∙◌, arith}, lemmas.List.{length-map}}
use Rattle.relation_fields.specs.{declared.packages.Home.{Home}, declared.packages.PackageFacts.{PackageFacts}}
use Rattle.repo_model.specs.{Repository.{suite_repository}, declared.fault.IndexFault.{IndexFault}}
use Rattle.row_book.specs.Sets.{Is}
use Rattle.suite_compare.specs.Asking.{verdict_in}
use Rattle.status_check.specs.{Own.{foreign_count, own_home, own_packages, status_fault}, Report.{all_of, had_goals, line_for, state_of, IsStateOf}}
use Rattle.status_check.specs.{declared.report.HaveLine.{HaveLine}, declared.report.OwnState.{OwnState}}
use Rattle.status_check.specs.{declared.report.OwnState.TheVariants.{Healthy, Unhit, Clash}, declared.report.StatusReport.{StatusReport}}
use Rattle.status_check.specs.{declared.report.SuiteState.{SuiteState}, States.{set_state}}
use Rattle.coinst_run.specs.{declared.answer.ReportVerdict.{ReportVerdict}, Answer.{reported}, Course.{answers, then_on}, Ending.{StopsAt}}
use Rattle.coinst_run.specs.{Index.{Index, by_fault}, Outcome.{Outcome, answered, unread, not_a_command}}
use Rattle.coinst_run.specs.SystemStatus.{system_answer, system_by_fault, system_in, system_report, told_answer}
use Rattle.coinst_run.specs.SystemText.{system_text, system_verdict, AreOfLines}
use Rattle.status_check.proofs.OwnStates.{among_all, own_is}

-- the packages that a state names have lines
pub own_of_lines : (home : Home) (index packages : List PackageFacts) (lines : List HaveLine) (state : OwnState) → lines ≡ map (line_for index) packages → IsStateOf (suite_repository home packages) (all_of packages) state → AreOfLines lines state
own_of_lines home index packages lines state are is = by state is
  where
    inside : (n : ℕ) → Is (all_of packages) n → n < length lines
    inside n i =
        let l = among_all packages n i in
        let long : length lines ≡ length packages = ap length are ∙ length-map packages (line_for index) in
        omega (arith, l, long)

    by : (state : OwnState) → IsStateOf (suite_repository home packages) (all_of packages) state → AreOfLines lines state
    by Healthy is = tt
    by (Unhit n) is = inside n is.1.chosen
    by (Clash m n) is = (inside m is.clash.clash.first, inside n is.clash.clash.second)

-- a report from its parts
report_made : (report : StatusReport) (lines : List HaveLine) (foreign : ℕ) (own : OwnState) (verdict : SuiteState) → report.lines ≡ lines → report.foreign ≡ foreign → report.own ≡ own → report.verdict ≡ verdict
    → report ≡ (let made : StatusReport = record { lines = lines; foreign = foreign; own = own; verdict = verdict } in made)
report_made report lines foreign own verdict a b c d =
    let made : List HaveLine → ℕ → OwnState → SuiteState → StatusReport = λ l f o v. record { lines = l; foreign = f; own = o; verdict = v } in
    ap₂ (λ l f. made l f report.own report.verdict) a b ∙ ap₂ (made lines foreign) c d

-- what the call answers is told
pub system_told : (path : List ℕ) (budget limit : ℕ) (hold : Bool) (index : Index) (text : List ℕ) (report : StatusReport) (verdict : ReportVerdict) (printed : List ℕ) → status_fault index.home text ≡ None
    → report.lines ≡ map (line_for index.packages) (own_packages index.home text) → report.foreign ≡ foreign_count index.home text
    → IsStateOf (suite_repository (own_home index.home text) (own_packages index.home text)) (all_of (own_packages index.home text)) report.own
    → report.verdict ≡ state_of budget (verdict_in limit hold index.home index.packages budget (had_goals index.packages (own_packages index.home text)))
    → verdict ≡ system_verdict report.own report.verdict → printed ≡ system_text budget report
    → system_answer path budget limit hold index text ≡ answers (reported verdict printed)
unfolding system_report
system_told path budget limit hold index text report verdict printed accepted lines foreign own state whole made =
    let home = own_home index.home text in
    let packages = own_packages index.home text in
    let same : report ≡ system_report budget limit hold index (system_in index.home text) =
    report_made report (map (line_for index.packages) packages) (foreign_count index.home text) (set_state (suite_repository home packages) (all_of packages))
    (state_of budget (verdict_in limit hold index.home index.packages budget (had_goals index.packages packages))) lines foreign (own_is home packages report.own own) state in
    ap (λ fault. then_on (system_by_fault path index.home text fault) (λ system. answers (told_answer budget (system_report budget limit hold index system)))) accepted
    ∙ ap (λ r. answers (told_answer budget r)) (sym same) ∙ ap₂ (λ v p. answers (reported v p)) (sym whole) (sym made)

-- a fault that is refused for an index is refused for a status file
pub system_refused : (path : List ℕ) (home : Home) (text : List ℕ) (there : Option IndexFault) (ending : Option Outcome) → StopsAt (by_fault path text there) ending → StopsAt (system_by_fault path home text there) ending
system_refused path home text there None h = tt
system_refused path home text None (Some (answered answer)) h = absurd cc
system_refused path home text (Some fault) (Some (answered answer)) h = cc
system_refused path home text there (Some (unread file)) h = absurd h
system_refused path home text there (Some not_a_command) h = absurd h
