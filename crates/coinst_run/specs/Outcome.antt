-- What the program answers if memory is found and no read or write fails. It is what a course leads
-- to over the files, and then the status, the report on standard output and the line on standard
-- error.
use Rattle.std.specs.Prelude.{◌≤◌, ℕ, nat_lt, cond, List, [], ◌∷◌, length, Option, Some, None}
use Rattle.repo_model.specs.Limits.{most_bytes}
use Rattle.byte_flow.specs.{Flow.{Files}, History.{OpenedFile}}
use Rattle.coinst_run.specs.declared.answer.Cause.TheVariants.{TooLarge as TooLargeFile}
use Rattle.coinst_run.specs.declared.status.Status.{Status}
use Rattle.coinst_run.specs.declared.status.Status.TheVariants.{Words, ReadFault}
use Rattle.coinst_run.specs.{Answer.{Answer, reported, refused}, Course.{Course, answers, reads}}
use Rattle.coinst_run.specs.Lines.{too_long_line, unread_line, words_line}
use Rattle.coinst_run.specs.Status.{cause_status, verdict_status}

-- a command answered, or the file at a path could not be read, or the words are no command
pub data Outcome : Type 0 where
  answered : Answer → Outcome
  unread : List ℕ → Outcome
  not_a_command : Outcome

-- the most bytes that a file may have
abbrev pub file_limit : ℕ
file_limit = most_bytes

-- a file that is longer
abbrev pub too_long : List ℕ → Answer
too_long path = refused TooLargeFile (too_long_line path)

-- a file that is there is read, unless it is too long
abbrev pub over_file : List ℕ → Option (List ℕ) → (List ℕ → Outcome) → Outcome
over_file path None next = unread path
over_file path (Some text) next =
    cond (nat_lt file_limit (length text)) (answered (too_long path)) (next text)

-- what a course leads to over the files
abbrev pub outcome_over : Files → Course → Outcome
outcome_over files (answers answer) = answered answer
outcome_over files (reads path next) =
    over_file path (files path) (λ text. outcome_over files (next text))

-- what a course leads to if its files have these texts, one after another
pub data GivesAnswer : Course → List OpenedFile → Answer → Type 0 where
  at_once : (answer : Answer) → GivesAnswer (answers answer) [] answer
  by_text : (path text : List ℕ) (next : List ℕ → Course) (readings : List OpenedFile)
      (answer : Answer) → length text ≤ file_limit → GivesAnswer (next text) readings answer →
      GivesAnswer (reads path next) ((path, text) ∷ readings) answer

-- the status, the report and the line of an outcome; no line with a report, and no report with a
-- line
abbrev pub status_of : Outcome → Status
status_of (answered (reported verdict report)) = verdict_status verdict
status_of (answered (refused cause line)) = cause_status cause
status_of (unread path) = ReadFault
status_of not_a_command = Words

abbrev pub report_of : Outcome → List ℕ
report_of (answered (reported verdict report)) = report
report_of (answered (refused cause line)) = []
report_of (unread path) = []
report_of not_a_command = []

abbrev pub line_of : Outcome → List ℕ
line_of (answered (reported verdict report)) = []
line_of (answered (refused cause line)) = line
line_of (unread path) = unread_line path
line_of not_a_command = words_line
