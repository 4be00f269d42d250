-- What a run read, file by file, and what it printed: on any shelf and into any sink, also over
-- real files and streams.
use Rattle.std.specs.Prelude.{◌≡◌, ℕ, List, [], ◌∷◌, ◌++◌, Option, IfSome, ⊤, Some}
use Rattle.std.specs.Io.KnownBytes.{Appends}
use Rattle.byte_flow.specs.{Flow.{Files}, History.{OpenedFile, noted}}
use Rattle.byte_flow.specs.{Models.{ShelfModel, SinkModel}, Transfer.{HandsOver, Sent}}
use Rattle.coinst_words.specs.{Jobs.{job_of}, declared.job.Job.{Job}}
use Rattle.coinst_run.specs.declared.answer.Cause.{Cause}
use Rattle.coinst_run.specs.declared.answer.Cause.TheVariants.{Content, ClauseLimit, UnknownGoal}
use Rattle.coinst_run.specs.declared.answer.Cause.TheVariants.{TooLarge}
use Rattle.coinst_run.specs.declared.answer.ReportVerdict.{ReportVerdict}
use Rattle.coinst_run.specs.{declared.status.Status.{Status}, Status.{code_of, verdict_status}}
use Rattle.coinst_run.specs.{Answer.{refused}, Meaning.{course_of}}
use Rattle.coinst_run.specs.Outcome.{GivesAnswer, file_limit}

-- These files were read one after another, each whole, by these calls of the shelf and no others.
-- Each is a path, and the text that the reads of its reading handed over.
pub data HasRead {S : Type 0} (M : ShelfModel S) : S → List OpenedFile → S → Type 0 where
  no_file : (s : S) → HasRead M s [] s
  a_file : (path text : List ℕ) (readings : List OpenedFile) (s t u : S) →
      HandsOver M s path file_limit text t → HasRead M t readings u →
      HasRead M s ((path, text) ∷ readings) u

-- the files have the texts that were read
abbrev pub AreOf : Files → List OpenedFile → Type 0
AreOf files [] = ⊤
AreOf files (r ∷ readings) = (files r.0 ≡ Some r.1) × AreOf files readings

-- A run did nothing to the shelf but read these files whole, and nothing to the sink but write
-- these bytes whole. This holds of what it read and of the bytes. If the shelf says its contents,
-- they have these texts, and if the sink says what it took, it took these bytes.
pub record Reports {S O : Type 0} (M : ShelfModel S) (N : SinkModel O) (old new : S)
    (out out_after : O) (P : List OpenedFile → List ℕ → Type 0) : Type 0 where
  pub readings : List OpenedFile
  pub printed : List ℕ
  pub was_read : HasRead M old readings new
  pub contents_say : IfSome (M.contents old) (λ files. AreOf files readings)
  pub was_written : Sent N out printed out_after []
  pub took : Appends (N.taken out) (N.taken out_after) printed
  pub holds : P readings printed

-- If the status is that of a report, a run printed a report, and this holds of it and of the exit
-- status.
abbrev pub Prints : {S O : Type 0} → ShelfModel S → SinkModel O → S → S → O → O → Status →
    (List OpenedFile → ℕ → List ℕ → Type 0) → Type 0
Prints M N old new out out_after status P =
    (verdict : ReportVerdict) → status ≡ verdict_status verdict →
    Reports M N old new out out_after (λ readings. P readings (code_of status))

-- a cause that only what was read can have
abbrev pub IsOfText : Cause → Type 0
IsOfText Content = ⊤
IsOfText ClauseLimit = ⊤
IsOfText UnknownGoal = ⊤
IsOfText TooLarge = ⊥

-- A run read these files whole, and refused what it read: the course of its job leads to this line.
-- It wrote nothing to the first sink, and the line to the second one.
pub record RunRefuses {S O : Type 0} (M : ShelfModel S) (old new : S) (out out_after : O)
    (words : List (List ℕ)) (cause : Cause) (Line : List ℕ → Type 0) : Type 0 where
  pub readings : List OpenedFile
  pub line : List ℕ
  pub was_read : HasRead M old readings new
  pub contents_say : IfSome (M.contents old) (λ files. AreOf files readings)
  pub same : out_after ≡ out
  pub said : Line line
  pub job : Job
  pub asked : job_of words ≡ Some job
  pub leads : GivesAnswer (course_of job) readings (refused cause line)

-- This holds of what a run read and printed, by what was noted of the calls of the system. These
-- are the files that were opened, the newest first, each with the bytes that its reads handed over;
-- and the bytes that the writes took.
pub record Noted (handed handed_after : List OpenedFile) (passed_on passed_on_after : List ℕ)
    (P : List OpenedFile → List ℕ → Type 0) : Type 0 where
  pub readings : List OpenedFile
  pub printed : List ℕ
  pub handed_over : handed_after ≡ noted readings handed
  pub was_passed_on : passed_on_after ≡ passed_on ++ printed
  pub holds : P readings printed

-- if the exit status is that of a report, this holds of what was noted, and of that status
abbrev pub NotesReport : List OpenedFile → List OpenedFile → List ℕ → List ℕ → ℕ →
    (List OpenedFile → ℕ → List ℕ → Type 0) → Type 0
NotesReport handed handed_after passed_on passed_on_after status P =
    (verdict : ReportVerdict) → status ≡ code_of (verdict_status verdict) →
    Noted handed handed_after passed_on passed_on_after (λ readings. P readings status)
