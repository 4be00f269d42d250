-- What a command answers.
use Rattle.std.specs.Prelude.{ℕ, List, Result}
use Rattle.coinst_run.specs.declared.answer.Cause.{Cause}
use Rattle.coinst_run.specs.declared.answer.ReportVerdict.{ReportVerdict}

-- a report and what it says as a whole, or what was refused and the line that says so
pub data Answer : Type 0 where
  reported : ReportVerdict → List ℕ → Answer
  refused : Cause → List ℕ → Answer

-- a part of a command: a value to go on with, or the answer of the whole command
abbrev pub CourseStage : Type 0 → Type 0
CourseStage A = Result A Answer
