-- Each command by its job: its course, what the program answers, and what its printed report means
-- for the files that were read.
use Rattle.std.specs.Prelude.{◌≡◌, ℕ, Bool, true, false, List, [], ◌∷◌, Option, Some, None}
use Rattle.suite_compare.specs.Refusals.{home_in, packages_in}
use Rattle.coinst_run.specs.IndexKernel.{index_kernel}
use Rattle.coinst_run.specs.Sample.{sample_limit, size_report, sample_course}
use Rattle.coinst_run.specs.declared.answer.ReportVerdict.{ReportVerdict}
use Rattle.coinst_run.specs.declared.answer.ReportVerdict.TheVariants.{Done}
use Rattle.coinst_run.specs.{ExplainMeaning.{ExplainMeans}, MigrateMeaning.{MigrateMeans}}
use Rattle.coinst_run.specs.{QueryMeaning.{QueryMeans}, StoredMeaning.{StoredMeans}}
use Rattle.coinst_run.specs.{SystemMeaning.{SystemMeans}, CompareMeaning.{CompareMeans}}
use Rattle.coinst_run.specs.{KernelMeaning.{KernelMeans}, Compare.{compare_course}}
use Rattle.coinst_run.specs.{Explain.{explain_course}, Kernel.{kernel_course}, Query.{query_course}}
use Rattle.coinst_run.specs.{Migrate.{migrate_course}, StoredQuery.{stored_query_course}}
use Rattle.coinst_run.specs.{SystemStatus.{status_course}, Course.{Course}}
use Rattle.coinst_run.specs.Outcome.{Outcome, not_a_command, outcome_over}
use Rattle.sample_suite.specs.SampleText.{sample_text}
use Rattle.kernel_text.specs.{KernelJson.{kernel_json}, KernelText.{format_of}}
use Rattle.repo_model.specs.FirstFault.{first_fault}
use Rattle.coinst_words.specs.{Jobs.{job_of}, declared.job.Job.{Job}}
use Rattle.coinst_words.specs.declared.job.Job.TheVariants.{Kernel, Query, StoredQuery, Compare}
use Rattle.coinst_words.specs.declared.job.Job.TheVariants.{Explain, Status, Migrate, Sample}
use Rattle.byte_flow.specs.{Flow.{Files}, History.{OpenedFile}}

-- the course of each command
abbrev pub course_of : Job → Course
course_of (Kernel index json limit hold) = kernel_course index json limit hold
course_of (Query index goals budget limit hold) = query_course index goals budget limit hold
course_of (StoredQuery kernel goals budget) = stored_query_course kernel goals budget
course_of (Compare old new budget limit hold) = compare_course old new budget limit hold
course_of (Explain index goals budget limit hold) = explain_course index goals budget limit hold
course_of (Status file index budget limit hold) = status_course file index budget limit hold
course_of (Migrate old new budget limit hold) = migrate_course old new budget limit hold
course_of (Sample seed count) = sample_course seed count

abbrev pub of_job : Option Job → Files → Outcome
of_job None files = not_a_command
of_job (Some job) files = outcome_over files (course_of job)

-- the outcome of the words over the files
unfoldable pub outcome_for : List (List ℕ) → Files → Outcome
outcome_for words files = of_job (job_of words) files

-- A kernel text has this meaning for the index. The printed bytes are the JSON of the format, the
-- repository, the members and the held classes that it reads for.
pub record JsonMeans (text : List ℕ) (limit : ℕ) (hold : Bool) (printed : List ℕ) : Type 0 where
  pub kernel_text : List ℕ
  pub means : KernelMeans text limit hold kernel_text
  pub json : printed ≡ kernel_json (format_of hold) means.repository means.members means.held

-- The text is an index without a fault, and the printed line has the numbers of its kernel without
-- hold.
pub record SizeMeans (text printed : List ℕ) : Type 0 where
  pub accepted : first_fault text ≡ None
  pub line : printed ≡ size_report (packages_in text)
      (index_kernel sample_limit false (home_in text) (packages_in text))

-- what a printed report means for the job that it was asked for, by its verdict, and for what was
-- read
abbrev pub MeansJob : Job → List OpenedFile → ReportVerdict → List ℕ → Type 0
MeansJob (Kernel path false limit hold) readings verdict printed = (text : List ℕ)
    × (readings ≡ (path, text) ∷ []) × (verdict ≡ Done) × KernelMeans text limit hold printed
MeansJob (Kernel path true limit hold) readings verdict printed = (text : List ℕ)
    × (readings ≡ (path, text) ∷ []) × (verdict ≡ Done) × JsonMeans text limit hold printed
MeansJob (Query path goals budget limit hold) readings verdict printed = (text : List ℕ)
    × (readings ≡ (path, text) ∷ []) × QueryMeans text goals budget limit hold verdict printed
MeansJob (StoredQuery path goals budget) readings verdict printed =
    (text : List ℕ) × (readings ≡ (path, text) ∷ []) × StoredMeans text goals budget verdict printed
MeansJob (Compare old new budget limit hold) readings verdict printed =
    (first second : List ℕ) × (readings ≡ (old, first) ∷ (new, second) ∷ [])
    × CompareMeans first second budget limit hold verdict printed
MeansJob (Explain path goals budget limit hold) readings verdict printed = (text : List ℕ)
    × (readings ≡ (path, text) ∷ []) × ExplainMeans text goals budget limit hold verdict printed
MeansJob (Status file index budget limit hold) readings verdict printed =
    (suite text : List ℕ) × (readings ≡ (index, suite) ∷ (file, text) ∷ [])
    × SystemMeans suite text budget limit hold verdict printed
MeansJob (Migrate old new budget limit hold) readings verdict printed =
    (first second : List ℕ) × (readings ≡ (old, first) ∷ (new, second) ∷ [])
    × MigrateMeans first second budget limit hold verdict printed
MeansJob (Sample seed count) readings verdict printed =
    (readings ≡ []) × (verdict ≡ Done) × SizeMeans (sample_text seed count) printed

-- The words ask for a job, and this is what the printed bytes mean for it.
pub record IsMeant (words : List (List ℕ)) (readings : List OpenedFile) (verdict : ReportVerdict)
    (printed : List ℕ) : Type 0 where
  pub job : Job
  pub asked : job_of words ≡ Some job
  pub means : MeansJob job readings verdict printed
