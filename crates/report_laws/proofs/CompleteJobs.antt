-- Jobs are answered by a report exactly where they are complete.
use Rattle.std.proofs.Common.{◌≡◌, ℕ, Bool, true, false, List, Option, Some, None, Result, Ok, Err, refl, sym, ap, subst, ◌∙◌}
use Rattle.std.specs.Prelude.{nat_lt, if◌then◌else◌}
use Rattle.byte_flow.specs.Flow.{Files}
use Rattle.coinst_words.specs.{Jobs.{IsInLimits}, declared.job.Job.{Job}}
use Rattle.coinst_words.specs.declared.job.Job.TheVariants.{Kernel, Query, StoredQuery, Compare, Explain, Status, Migrate, Sample}
use Rattle.explain_core.specs.{Explaining.{explanation_of}, declared.explanation.Explanation.{Explanation}}
use Rattle.explain_core.specs.declared.explanation.Explanation.TheVariants.{Yes, Spent, Core}
use Rattle.kernel_text.specs.Images.{unknown_goal as unknown_in_kernel}
use Rattle.kernel_text.specs.{KernelReads.{KernelContent, KernelReads}, declared.fault.KernelFault.{KernelFault}, Serving.{images_in}}
use Rattle.kernel_text.specs.StoredReading.{stored_reading}
use Rattle.migrate_plan.specs.{Plan.{Settings, plan, plan_settings}, Refusals.{plan_refusal}, declared.refusals.PlanError.{PlanError}}
use Rattle.migrate_plan.specs.declared.refusals.PlanError.TheVariants.{Homes, Names, Packages, TooLong, Memory}
use Rattle.relation_fields.specs.declared.packages.PackageFacts.{PackageFacts}
use Rattle.repo_model.specs.{declared.fault.IndexFault.{IndexFault}, declared.goals.Goal.{Goal}}
use Rattle.sample_suite.specs.SampleText.{sample_text}
use Rattle.sample_suite.proofs.Fitting.{sample_accepted}
use Rattle.search_terms.specs.Tree.{Tree, failed_leaves, found_of}
use Rattle.status_check.specs.Own.{status_fault}
use Rattle.suite_compare.specs.{Answering.{unknown_goal}, Asking.{asked_tree, tree_of}, Refusals.{packages_in}}
use Rattle.coinst_run.specs.{declared.answer.ReportVerdict.TheVariants.{Done, Negative, Undecided}, Answer.{Answer, reported}}
use Rattle.coinst_run.specs.{Compare.{compare_answer, newer_course}, Course.{Course, answers, then_on}}
use Rattle.coinst_run.specs.{Explain.{explain_answer, explained_by_unknown, explanation_answer, goals_explained}, Index.{Index, by_fault, index_in}}
use Rattle.coinst_run.specs.{Kernel.{kernel_answer}, Migrate.{by_refusal, new_answer, new_course, old_answer, plan_answer, refusal_of}}
use Rattle.coinst_run.specs.{MigrateText.{plan_text, plan_verdict}, Meaning.{course_of, of_job, outcome_for}, Outcome.{answered, outcome_over}}
use Rattle.coinst_run.specs.{Query.{by_found, by_tree, by_unknown, goals_answer, installed_text, query_answer, unknown_answer}, QueryText.{undecided_text}}
use Rattle.coinst_run.specs.Sample.{sample_answer, sample_limit, sample_path, size_report}
use Rattle.coinst_run.specs.StoredQuery.{by_reading, classes_text, stored_answer, stored_by_unknown, stored_query_answer}
use Rattle.coinst_run.specs.SystemStatus.{system_answer, system_by_fault, system_course, told_answer, system_report}
use Rattle.kernel_text.proofs.StoredReading.{texts_are_told}
use Rattle.report_laws.specs.Complete.{CompleteJobsReport, GivesReport, IsComplete}
use Rattle.coinst_run.proofs.GoingOn.{checked_used, file_used, kernel_at_used, kernel_used, limit_used}
use Rattle.report_laws.proofs.Steps.{file_step, kernel_at_step, kernel_step, limit_step, some_alone, told}

-- goals that are answered by a report are known
goals_known : (answer : Option ℕ → Answer) (goals : List Goal) → ((number : ℕ) → answer (Some number) ≡ unknown_answer goals number) → (u : Option ℕ) → GivesReport (answered (answer u)) → u ≡ None
goals_known answer goals is None g = refl
goals_known answer goals is (Some number) g = absurd (let s = ap answered (sym (is number)) ∙ g.2 in let k : ⊥ = cc in k)

-- an answer by a tree
found_told : (shown : List Bool → List ℕ) (tree : Tree) (chosen : Option (List Bool)) → GivesReport (answered (by_found shown tree chosen))
found_told shown tree (Some chosen) = told Done _
found_told shown tree None = told Negative _

tree_told : (shown : List Bool → List ℕ) (budget : ℕ) (tree : Tree) → GivesReport (answered (by_tree shown budget tree))
tree_told shown budget tree = by (nat_lt budget (failed_leaves tree))
  where
    by : (b : Bool) → GivesReport (answered (if b then reported Undecided (undecided_text budget) else by_found shown tree (found_of tree)))
    by true = told Undecided (undecided_text budget)
    by false = found_told shown tree (found_of tree)

-- goals of an index
query_told : (goals : List Goal) (budget limit : ℕ) (hold : Bool) (index : Index) → unknown_goal index.packages goals ≡ None → GivesReport (answered (goals_answer goals budget limit hold index))
query_told goals budget limit hold index e =
    subst (λ u. GivesReport (answered (by_unknown limit hold index goals budget u))) (sym e) (tree_told (installed_text limit hold index goals) budget (asked_tree limit hold index.home index.packages goals))

query_known : (goals : List Goal) (budget limit : ℕ) (hold : Bool) (index : Index) → GivesReport (answered (goals_answer goals budget limit hold index)) → unknown_goal index.packages goals ≡ None
query_known goals budget limit hold index g = goals_known (by_unknown limit hold index goals budget) goals (λ number. refl) (unknown_goal index.packages goals) g

explanation_told : (packages : List PackageFacts) (goals : List Goal) (budget : ℕ) (e : Explanation) → GivesReport (answered (explanation_answer packages goals budget e))
explanation_told packages goals budget Yes = told Done _
explanation_told packages goals budget (Spent failed) = told Undecided _
explanation_told packages goals budget (Core marks clashes) = told Negative _

explain_told : (goals : List Goal) (budget limit : ℕ) (hold : Bool) (index : Index) → unknown_goal index.packages goals ≡ None → GivesReport (answered (goals_explained goals budget limit hold index))
explain_told goals budget limit hold index e =
    subst (λ u. GivesReport (answered (explained_by_unknown goals budget limit hold index u))) (sym e) (explanation_told index.packages goals budget (explanation_of limit hold index.home index.packages budget goals))

explain_known : (goals : List Goal) (budget limit : ℕ) (hold : Bool) (index : Index) → GivesReport (answered (goals_explained goals budget limit hold index)) → unknown_goal index.packages goals ≡ None
explain_known goals budget limit hold index g = goals_known (explained_by_unknown goals budget limit hold index) goals (λ number. refl) (unknown_goal index.packages goals) g

-- a stored kernel is what the grammar reads
stored_as : (text : List ℕ) (kernel : KernelContent) → KernelReads text kernel.format kernel.repository kernel.members kernel.held → stored_reading text ≡ Ok kernel
stored_as text kernel h = (texts_are_told text kernel.format kernel.repository kernel.members kernel.held).0 h

as_stored : (text : List ℕ) (kernel : KernelContent) → stored_reading text ≡ Ok kernel → KernelReads text kernel.format kernel.repository kernel.members kernel.held
as_stored text kernel e = (texts_are_told text kernel.format kernel.repository kernel.members kernel.held).1 e

-- goals of a stored kernel
stored_told : (goals : List Goal) (budget : ℕ) (kernel : KernelContent) → unknown_in_kernel kernel.members goals ≡ None → GivesReport (answered (stored_answer goals budget kernel))
stored_told goals budget kernel e = subst (λ u. GivesReport (answered (stored_by_unknown kernel goals budget u))) (sym e) (tree_told classes_text budget (tree_of kernel.repository (images_in kernel goals)))

stored_known : (goals : List Goal) (budget : ℕ) (kernel : KernelContent) → GivesReport (answered (stored_answer goals budget kernel)) → unknown_in_kernel kernel.members goals ≡ None
stored_known goals budget kernel g = goals_known (stored_by_unknown kernel goals budget) goals (λ number. refl) (unknown_in_kernel kernel.members goals) g

module _ (files : Files) (path text : List ℕ) (goals : List Goal) (budget : ℕ) where
  stored_goes_on : (content : KernelContent) → stored_reading text ≡ Ok content → unknown_in_kernel content.members goals ≡ None → GivesReport (outcome_over files (stored_query_answer path goals budget text))
  stored_goes_on content e u = subst (λ r. GivesReport (outcome_over files (then_on (by_reading path r) (λ kernel. answers (stored_answer goals budget kernel))))) (sym e) (stored_told goals budget content u)

  stored_was : GivesReport (outcome_over files (stored_query_answer path goals budget text)) → (content : KernelContent) × (stored_reading text ≡ Ok content) × (unknown_in_kernel content.members goals ≡ None)
  stored_was g = by (stored_reading text) refl g
    where
      by : (r : Result KernelContent KernelFault) → stored_reading text ≡ r → GivesReport (outcome_over files (then_on (by_reading path r) (λ kernel. answers (stored_answer goals budget kernel))))
          → (content : KernelContent) × (stored_reading text ≡ Ok content) × (unknown_in_kernel content.members goals ≡ None)
      by (Ok content) is g = (content, is, stored_known goals budget content g)
      by (Err fault) is g = absurd (let s = g.2 in let k : ⊥ = cc in k)

-- a system
module _ (files : Files) (path : List ℕ) (budget limit : ℕ) (hold : Bool) (index : Index) (text : List ℕ) where
  system_goes_on : status_fault index.home text ≡ None → GivesReport (outcome_over files (system_answer path budget limit hold index text))
  system_goes_on e =
      subst (λ f. GivesReport (outcome_over files (then_on (system_by_fault path index.home text f) (λ system. answers (told_answer budget (system_report budget limit hold index system)))))) (sym e)
      (told _ _)

  system_was : GivesReport (outcome_over files (system_answer path budget limit hold index text)) → status_fault index.home text ≡ None
  system_was g = by (status_fault index.home text) g
    where
      by : (f : Option IndexFault) → GivesReport (outcome_over files (then_on (system_by_fault path index.home text f) (λ system. answers (told_answer budget (system_report budget limit hold index system))))) → f ≡ None
      by None g = refl
      by (Some fault) g = absurd (let s = g.2 in let k : ⊥ = cc in k)

-- a plan
plan_refused : (old new : List ℕ) (error : PlanError) → GivesReport (answered (refusal_of old new error)) → ⊥
plan_refused old new Homes g = let s = g.2 in let k : ⊥ = cc in k
plan_refused old new (Names count) g = let s = g.2 in let k : ⊥ = cc in k
plan_refused old new (Packages count) g = let s = g.2 in let k : ⊥ = cc in k
plan_refused old new (TooLong count) g = let s = g.2 in let k : ⊥ = cc in k
plan_refused old new Memory g = let s = g.2 in let k : ⊥ = cc in k

module _ (files : Files) (old new : List ℕ) (settings : Settings) (first : List ℕ) where
  plan_goes_on : (second : List ℕ) → plan_refusal first second ≡ None → GivesReport (outcome_over files (plan_answer old new settings first second))
  plan_goes_on second e = subst (λ r. GivesReport (outcome_over files (then_on (by_refusal old new (plan settings first second) r) (λ lines. answers (reported (plan_verdict lines) (plan_text lines)))))) (sym e) (told _ _)

  plan_was : (second : List ℕ) → GivesReport (outcome_over files (plan_answer old new settings first second)) → plan_refusal first second ≡ None
  plan_was second g = by (plan_refusal first second) g
    where
      by : (r : Option PlanError) → GivesReport (outcome_over files (then_on (by_refusal old new (plan settings first second) r) (λ lines. answers (reported (plan_verdict lines) (plan_text lines))))) → r ≡ None
      by None g = refl
      by (Some error) g = absurd (plan_refused old new error g)

-- every job
goes_on : (files : Files) (job : Job) → IsInLimits job → IsComplete files job → GivesReport (outcome_over files (course_of job))
goes_on files (Kernel index json limit hold) m w = subst GivesReport (sym (kernel_step files index limit hold (kernel_answer json) w.0 w.1)) (told _ _)
goes_on files (Query index goals budget limit hold) m w =
    subst GivesReport (sym (kernel_step files index limit hold (query_answer goals budget limit hold) w.0 w.1)) (query_told goals budget limit hold (index_in w.0) w.2)
goes_on files (StoredQuery kernel goals budget) m w =
    subst GivesReport (sym (file_step files kernel (stored_query_answer kernel goals budget) w.0 w.1))
    (stored_goes_on files kernel w.0 goals budget (w.2).0 (stored_as w.0 (w.2).0 (w.2).1) (w.2).2)
goes_on files (Compare old new budget limit hold) m w =
    subst GivesReport
    (sym (kernel_step files old limit hold (newer_course new budget limit hold) w.0 w.2 ∙ kernel_step files new limit hold (compare_answer budget limit hold (index_in w.0)) w.1 w.3)) (told _ _)
goes_on files (Explain index goals budget limit hold) m w =
    subst GivesReport (sym (kernel_step files index limit hold (explain_answer goals budget limit hold) w.0 w.1)) (explain_told goals budget limit hold (index_in w.0) w.2)
goes_on files (Status file index budget limit hold) m w =
    subst GivesReport
    (sym (kernel_step files index limit hold (system_course file budget limit hold) w.0 w.2 ∙ file_step files file (system_answer file budget limit hold (index_in w.0)) w.1 w.3))
    (system_goes_on files file budget limit hold (index_in w.0) w.1 w.4)
goes_on files (Migrate old new budget limit hold) m w =
    let settings : Settings = plan_settings budget limit hold in
    let rest : Course = new_course old new settings w.0 in
    subst GivesReport
    (sym (file_step files old (old_answer old new settings) w.0 (w.2).0.file ∙ kernel_at_step files old limit hold w.0 (λ kernel. rest) (w.2).0.accepted (w.2).1
    ∙ file_step files new (new_answer old new settings w.0) w.1 (w.3).file
    ∙ ap (λ f. outcome_over files (then_on (by_fault new w.1 f) (λ index. plan_answer old new settings w.0 w.1))) (w.3).accepted))
    (plan_goes_on files old new settings w.0 w.1 w.4)
goes_on files (Sample seed count) m w =
    subst GivesReport
    (sym (ap (λ f. outcome_over files (then_on (by_fault sample_path (sample_text seed count) f) sample_answer)) (sample_accepted seed count m)
    ∙ limit_step files sample_path sample_limit false (sample_text seed count) (λ kernel. answers (reported Done (size_report (packages_in (sample_text seed count)) kernel))) w))
    (told _ _)

was : (files : Files) (job : Job) → GivesReport (outcome_over files (course_of job)) → IsComplete files job
was files (Kernel index json limit hold) g = let w = kernel_used GivesReport some_alone files index limit hold (kernel_answer json) g in (w.0, w.1)
was files (Query index goals budget limit hold) g =
    let w = kernel_used GivesReport some_alone files index limit hold (query_answer goals budget limit hold) g in (w.0, w.1, query_known goals budget limit hold (index_in w.0) w.2)
was files (StoredQuery kernel goals budget) g =
    let w = file_used GivesReport some_alone files kernel (stored_query_answer kernel goals budget) g in
    let v : (content : KernelContent) × (stored_reading w.0 ≡ Ok content) × (unknown_in_kernel content.members goals ≡ None) = stored_was files kernel w.0 goals budget w.2 in
    (w.0, w.1, (v.0, as_stored w.0 v.0 v.1, v.2))
was files (Compare old new budget limit hold) g =
    let w = kernel_used GivesReport some_alone files old limit hold (newer_course new budget limit hold) g in
    let v = kernel_used GivesReport some_alone files new limit hold (compare_answer budget limit hold (index_in w.0)) w.2 in (w.0, v.0, w.1, v.1)
was files (Explain index goals budget limit hold) g =
    let w = kernel_used GivesReport some_alone files index limit hold (explain_answer goals budget limit hold) g in (w.0, w.1, explain_known goals budget limit hold (index_in w.0) w.2)
was files (Status file index budget limit hold) g =
    let w = kernel_used GivesReport some_alone files index limit hold (system_course file budget limit hold) g in
    let v = file_used GivesReport some_alone files file (system_answer file budget limit hold (index_in w.0)) w.2 in (w.0, v.0, w.1, v.1, system_was files file budget limit hold (index_in w.0) v.0 v.2)
was files (Migrate old new budget limit hold) g =
    let settings : Settings = plan_settings budget limit hold in
    let w = file_used GivesReport some_alone files old (old_answer old new settings) g in
    let k = kernel_at_used GivesReport some_alone files old limit hold w.0 (λ kernel. new_course old new settings w.0) w.2 in
    let v = file_used GivesReport some_alone files new (new_answer old new settings w.0) k.2 in
    let c = checked_used GivesReport some_alone files new (λ index. plan_answer old new settings w.0 v.0) v.0 v.2 in
    (w.0, v.0, (record { file = w.1; accepted = k.0 }, k.1), record { file = v.1; accepted = c.0 }, plan_was files old new settings w.0 v.0 c.1)
was files (Sample seed count) g =
    let c = checked_used GivesReport some_alone files sample_path sample_answer (sample_text seed count) g in
    (limit_used GivesReport some_alone files sample_path sample_limit false (sample_text seed count) (λ kernel. answers (reported Done (size_report (packages_in (sample_text seed count)) kernel))) c.1).0

pub complete_jobs_report : CompleteJobsReport
unfolding outcome_for
complete_jobs_report words files job is limits =
    let e : outcome_for words files ≡ outcome_over files (course_of job) = ap (λ j. of_job j files) is in
    ((λ g. was files job (subst GivesReport e g)), (λ w. subst GivesReport (sym e) (goes_on files job limits w)))
