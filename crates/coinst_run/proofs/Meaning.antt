-- What the kernel text of an index means.
use Rattle.std.proofs.Common.{◌≡◌, ℕ, Bool, true, false, List, [], ◌∷◌, None, refl, sym, ap, ap₂, ◌∙◌}
use Rattle.byte_flow.specs.History.{OpenedFile}
use Rattle.repo_model.specs.{FirstFault.{first_fault}, Repository.{suite_repository}}
use Rattle.repo_model.proofs.Accepted.{Accepted}
use Rattle.row_book.specs.{Repository.{Repository}, Rounds.{kernel, kernel_held}}
use Rattle.kernel_text.specs.{KernelJson.{kernel_json}, KernelText.{format_of}}
use Rattle.kernel_text.proofs.StoredReading.{one_reading}
use Rattle.claims.proofs.PrintedKernels.{keeps, reads, stands}
use Rattle.suite_compare.specs.Refusals.{home_in, packages_in}
use Rattle.coinst_run.specs.{declared.answer.ReportVerdict.{ReportVerdict}, declared.answer.ReportVerdict.TheVariants.{Done}, Answer.{reported}}
use Rattle.coinst_run.specs.{IndexKernel.{classed_kernel, index_kernel, json_for, members_for, text_for}, Kernel.{kernel_answer}, KernelMeaning.{KernelMeans}}
use Rattle.coinst_run.specs.{Meaning.{JsonMeans, MeansJob, course_of}, Outcome.{GivesAnswer}}
use Rattle.coinst_words.specs.{declared.job.Job.{Job}, declared.job.Job.TheVariants.{Kernel, Query, StoredQuery, Compare, Explain, Status, Migrate, Sample}}
use Rattle.coinst_run.proofs.{CompareMeant.{compare_is_meant}, ExplainMeant.{explain_is_meant}, MigrateMeant.{migrate_is_meant}}
use Rattle.coinst_run.proofs.{QueryMeant.{query_is_meant, formed}, AnswerMeant.{told_means}, Given.{at_end, kernel_read}, SampleMeaning.{sample_report_means}}
use Rattle.coinst_run.proofs.{StoredMeant.{stored_query_is_meant}, SystemMeant.{system_is_meant}}

pub index_kernel_means : (limit : ℕ) (hold : Bool) (text : List ℕ) → first_fault text ≡ None → KernelMeans text limit hold (text_for (packages_in text) (index_kernel limit hold (home_in text) (packages_in text)))
unfolding index_kernel classed_kernel
index_kernel_means limit hold text e =
    let f : Accepted (packages_in text) = formed text e in
    let R : Repository = suite_repository (home_in text) (packages_in text) in
    record {
      accepted = e;
      repository = kernel limit hold R;
      members = members_for (packages_in text) (index_kernel limit hold (home_in text) (packages_in text));
      held = kernel_held limit hold R;
      reads = reads limit hold (home_in text) (packages_in text) f;
      once = one_reading (text_for (packages_in text) (index_kernel limit hold (home_in text) (packages_in text)));
      kernel = refl;
      people = refl;
      stay = refl;
      stands = stands limit hold (home_in text) (packages_in text) f;
      keeps = keeps limit hold (home_in text) (packages_in text) f;
    }

-- as JSON it is that of the kernel for which the text stands
index_json_means : (limit : ℕ) (hold : Bool) (text : List ℕ) → first_fault text ≡ None → JsonMeans text limit hold (json_for (packages_in text) (index_kernel limit hold (home_in text) (packages_in text)))
unfolding index_kernel classed_kernel
index_json_means limit hold text e =
    let means : KernelMeans text limit hold (text_for (packages_in text) (index_kernel limit hold (home_in text) (packages_in text))) = index_kernel_means limit hold text e in
    record {
      kernel_text = text_for (packages_in text) (index_kernel limit hold (home_in text) (packages_in text));
      means = means;
      json =
          ap₂ (λ K ms. kernel_json (format_of hold) K ms (kernel_held limit hold (suite_repository (home_in text) (packages_in text)))) (sym means.kernel) (sym means.people)
          ∙ ap (kernel_json (format_of hold) means.repository means.members) (sym means.stay);
    }

-- the report of the command, as text and as JSON
kernel_report_means : (path : List ℕ) (json : Bool) (limit : ℕ) (hold : Bool) (readings : List OpenedFile) (verdict : ReportVerdict) (report : List ℕ) →
    GivesAnswer (course_of (Kernel path json limit hold)) readings (reported verdict report) → MeansJob (Kernel path json limit hold) readings verdict report
kernel_report_means path false limit hold readings verdict report e =
    let first = kernel_read verdict report path limit hold (kernel_answer false) readings e in
    let text : List ℕ = text_for (packages_in first.0) (index_kernel limit hold (home_in first.0) (packages_in first.0)) in
    let end = at_end verdict report (reported Done text) first.1 first.4 in
    let means : (verdict ≡ Done) × KernelMeans first.0 limit hold report =
    told_means (λ said printed. (said ≡ Done) × KernelMeans first.0 limit hold printed) (reported Done text) verdict report end.1 (refl, index_kernel_means limit hold first.0 first.3) in
    (first.0, first.2 ∙ ap (λ rest. (path, first.0) ∷ rest) end.0, means.0, means.1)
kernel_report_means path true limit hold readings verdict report e =
    let first = kernel_read verdict report path limit hold (kernel_answer true) readings e in
    let text : List ℕ = json_for (packages_in first.0) (index_kernel limit hold (home_in first.0) (packages_in first.0)) in
    let end = at_end verdict report (reported Done text) first.1 first.4 in
    let means : (verdict ≡ Done) × JsonMeans first.0 limit hold report =
    told_means (λ said printed. (said ≡ Done) × JsonMeans first.0 limit hold printed) (reported Done text) verdict report end.1 (refl, index_json_means limit hold first.0 first.3) in
    (first.0, first.2 ∙ ap (λ rest. (path, first.0) ∷ rest) end.0, means.0, means.1)

-- what the report on a job means
pub report_means : (job : Job) (readings : List OpenedFile) (verdict : ReportVerdict) (report : List ℕ) → GivesAnswer (course_of job) readings (reported verdict report) → MeansJob job readings verdict report
report_means (Kernel path json limit hold) readings verdict report e = kernel_report_means path json limit hold readings verdict report e
report_means (Query path goals budget limit hold) readings verdict report e = query_is_meant path goals budget limit hold readings verdict report e
report_means (StoredQuery path goals budget) readings verdict report e = stored_query_is_meant path goals budget readings verdict report e
report_means (Compare old new budget limit hold) readings verdict report e = compare_is_meant old new budget limit hold readings verdict report e
report_means (Explain path goals budget limit hold) readings verdict report e = explain_is_meant path goals budget limit hold readings verdict report e
report_means (Status file index budget limit hold) readings verdict report e = system_is_meant file index budget limit hold readings verdict report e
report_means (Migrate old new budget limit hold) readings verdict report e = migrate_is_meant old new budget limit hold readings verdict report e
report_means (Sample seed count) readings verdict report e = sample_report_means readings verdict report seed count e
