-- Which jobs are answered by a report: their files are there, are accepted and within the limits,
-- and their goals are known.
use Rattle.std.specs.Prelude.{◌≡◌, ◌↔◌, ℕ, false, List, Some, None}
use Rattle.byte_flow.specs.Flow.{Files}
use Rattle.coinst_words.specs.declared.job.Job.{Job}
use Rattle.coinst_words.specs.declared.job.Job.TheVariants.{Kernel, Query, StoredQuery, Compare}
use Rattle.coinst_words.specs.declared.job.Job.TheVariants.{Explain, Status, Migrate, Sample}
use Rattle.kernel_text.specs.Images.{unknown_goal as unknown_in_kernel}
use Rattle.kernel_text.specs.KernelReads.{KernelContent, KernelReads}
use Rattle.migrate_plan.specs.Refusals.{plan_refusal}
use Rattle.repo_model.specs.declared.goals.Goal.{Goal}
use Rattle.sample_suite.specs.SampleText.{sample_text}
use Rattle.status_check.specs.Own.{status_fault}
use Rattle.suite_compare.specs.{Answering.{unknown_goal}, Refusals.{home_in, packages_in}}
use Rattle.coinst_words.specs.Jobs.{IsInLimits, job_of}
use Rattle.coinst_run.specs.{declared.answer.ReportVerdict.{ReportVerdict}, Answer.{reported}}
use Rattle.coinst_run.specs.{Meaning.{outcome_for}, Outcome.{Outcome, answered}}
use Rattle.coinst_run.specs.Sample.{sample_limit}
use Rattle.coinst_run.specs.Present.{HasFile, HasIndex, HasKernel, IsWithinLimit}

-- each goal names a package of the index
abbrev pub AreKnown : List ℕ → List Goal → Type 0
AreKnown text goals = unknown_goal (packages_in text) goals ≡ None

-- what each job wants of the files
abbrev pub IsComplete : Files → Job → Type 0
IsComplete files (Kernel index json limit hold) =
    (text : List ℕ) × HasKernel files index limit hold text
IsComplete files (Query index goals budget limit hold) =
    (text : List ℕ) × HasKernel files index limit hold text × AreKnown text goals
IsComplete files (StoredQuery kernel goals budget) =
    (text : List ℕ) × HasFile files kernel text × ((content : KernelContent)
    × KernelReads text content.format content.repository content.members content.held
    × (unknown_in_kernel content.members goals ≡ None))
IsComplete files (Compare old new budget limit hold) = (first : List ℕ) × (second : List ℕ)
    × HasKernel files old limit hold first × HasKernel files new limit hold second
IsComplete files (Explain index goals budget limit hold) =
    (text : List ℕ) × HasKernel files index limit hold text × AreKnown text goals
IsComplete files (Status file index budget limit hold) =
    (text : List ℕ) × (system : List ℕ) × HasKernel files index limit hold text
    × HasFile files file system × (status_fault (home_in text) system ≡ None)
IsComplete files (Migrate old new budget limit hold) =
    (first : List ℕ) × (second : List ℕ) × HasKernel files old limit hold first
    × HasIndex files new second × (plan_refusal first second ≡ None)
IsComplete files (Sample seed count) = IsWithinLimit sample_limit false (sample_text seed count)

-- the outcome is a report
abbrev pub GivesReport : Outcome → Type 0
GivesReport outcome =
    (verdict : ReportVerdict) × (printed : List ℕ) × (outcome ≡ answered (reported verdict printed))

-- words that ask for a job are answered by a report exactly if the job is complete
abbrev pub CompleteJobsReport : Type 0
CompleteJobsReport = (words : List (List ℕ)) (files : Files) (job : Job) → job_of words ≡ Some job →
    IsInLimits job → (GivesReport (outcome_for words files) ↔ IsComplete files job)
