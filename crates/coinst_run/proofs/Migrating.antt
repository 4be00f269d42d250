-- From what the calls of a plan answer to its course.
use Rattle.std.proofs.Common.{◌≡◌, ℕ, Bool, List, Option, Some, None, Result, Ok, refl, sym, ap, ap₂, subst, ◌∙◌}
use Rattle.std.specs.Prelude.{IfSome}
use Rattle.migrate_plan.specs.{Plan.{Settings, plan}, Refusals.{plan_refusal}, declared.plan.PlanLine.{PlanLine}, declared.refusals.PlanError.{PlanError}}
use Rattle.relation_fields.specs.{declared.packages.Home.{Home}, declared.packages.PackageFacts.{PackageFacts}}
use Rattle.repo_model.specs.{Feeding.{IsSuiteOf}, FirstFault.{first_fault}, declared.fault.IndexFault.{IndexFault}}
use Rattle.suite_compare.specs.Refusals.{home_in, packages_in}
use Rattle.coinst_run.specs.{declared.answer.ReportVerdict.{ReportVerdict}, Answer.{Answer, CourseStage, reported}, Course.{answers, then_on}, Ending.{StopsAt}}
use Rattle.coinst_run.specs.{Index.{Index, by_fault, checked_index, index_in}, IndexKernel.{ClassedKernel, index_kernel}, Kernel.{kernel_of}}
use Rattle.coinst_run.specs.{Migrate.{by_refusal, kernel_at, kernel_behind, lines_answer, plan_answer, refusal_of}, MigrateText.{plan_text, plan_verdict}}
use Rattle.coinst_run.specs.Outcome.{Outcome, answered, not_a_command, unread}
use Rattle.coinst_run.proofs.Follows.{stops_at}

-- an index that was checked is the index of its text, which has no fault
checked_by : (path text : List ℕ) (index : Index) (fault : Option IndexFault) → first_fault text ≡ fault → by_fault path text fault ≡ Ok index → (first_fault text ≡ None) × (index_in text ≡ index)
checked_by path text index (Some fault) is e = absurd cc
checked_by path text index None is e = (is, cc)

index_checked : (path text : List ℕ) (index : Index) → checked_index path text ≡ Ok index → (first_fault text ≡ None) × (index_in text ≡ index)
index_checked path text index e = checked_by path text index (first_fault text) refl e

pub suite_checked : (path text : List ℕ) (home : Home) (packages : List PackageFacts) → (let index : Index = record { home = home; packages = packages } in checked_index path text ≡ Ok index) →
    IsSuiteOf text packages home.name
suite_checked path text home packages e =
    let w = index_checked path text (record { home = home; packages = packages }) e in
    record { fine = w.0; facts = sym (ap (λ (i : Index). i.packages) w.1); common = sym (ap (λ (i : Index). i.home.name) w.1) }

-- and so is that of which this is the suite
pub checked_read : (path text : List ℕ) (home : Home) (packages : List PackageFacts) → IsSuiteOf text packages home.name → (let index : Index = record { home = home; packages = packages } in checked_index path text ≡ Ok index)
checked_read path text home packages suite =
    ap (by_fault path text) suite.fine
    ∙ ap₂ (λ (name : Option (List ℕ)) (facts : List PackageFacts). let index : Index = record { home = record { name = name }; packages = facts } in let stage : CourseStage Index = Ok index in stage) (sym suite.common) (sym suite.facts)

-- its kernel is that of its text
pub kernel_checked : (path text : List ℕ) (limit : ℕ) (hold : Bool) (index : Index) → checked_index path text ≡ Ok index → kernel_of path limit hold index ≡ Ok (index_kernel limit hold index.home index.packages) →
    kernel_at path limit hold text ≡ Ok (index_kernel limit hold (home_in text) (packages_in text))
kernel_checked path text limit hold index e k =
    ap (kernel_behind path limit hold) e ∙ k
    ∙ ap (λ (i : Index). let made : Result ClassedKernel Answer = Ok (index_kernel limit hold i.home i.packages) in made) (sym (index_checked path text index e).1)

-- where it has a fault no kernel is asked for
pub stops_before : (path text : List ℕ) (limit : ℕ) (hold : Bool) (ending : Option Outcome) → StopsAt (checked_index path text) ending → StopsAt (kernel_at path limit hold text) ending
stops_before path text limit hold None h = tt
stops_before path text limit hold (Some (answered answer)) h = ap (kernel_behind path limit hold) h
stops_before path text limit hold (Some (unread file)) h = absurd h
stops_before path text limit hold (Some not_a_command) h = absurd h

-- and where its kernel is refused, that of its text is
pub stops_behind : (path text : List ℕ) (limit : ℕ) (hold : Bool) (index : Index) (ending : Option Outcome) → checked_index path text ≡ Ok index → StopsAt (kernel_of path limit hold index) ending → StopsAt (kernel_at path limit hold text) ending
stops_behind path text limit hold index ending e h = subst (λ stage. StopsAt stage ending) (sym (ap (kernel_behind path limit hold) e)) h

-- a plan that is told
pub plan_told : (old new : List ℕ) (settings : Settings) (first second : List ℕ) (lines : List PlanLine) (verdict : ReportVerdict) (text : List ℕ) → plan_refusal first second ≡ None → lines ≡ plan settings first second
    → verdict ≡ plan_verdict lines → text ≡ plan_text lines → plan_answer old new settings first second ≡ answers (reported verdict text)
plan_told old new settings first second lines verdict text free are whole reads =
    ap (λ there. then_on (by_refusal old new (plan settings first second) there) (λ shown. answers (lines_answer shown))) free
    ∙ ap (λ shown. answers (lines_answer shown)) (sym are) ∙ ap₂ (λ v t. answers (reported v t)) (sym whole) (sym reads)

-- and one that is refused
pub plan_refused : (old new : List ℕ) (lines : List PlanLine) (there : Option PlanError) (error : PlanError) (ending : Option Outcome) → there ≡ Some error → IfSome ending (λ o. o ≡ answered (refusal_of old new error)) →
    StopsAt (by_refusal old new lines there) ending
plan_refused old new lines there error ending is h = stops_at (by_refusal old new lines there) (refusal_of old new error) ending (ap (by_refusal old new lines) is) h
