-- The course of a command: which files it reads, each by what it read before, and what it then
-- answers.
use Rattle.std.specs.Prelude.{ℕ, List, Ok, Err}
use Rattle.coinst_run.specs.Answer.{Answer, CourseStage}

-- it answers, or it reads the file at a path whole and goes on by the text
pub data Course : Type 0 where
  answers : Answer → Course
  reads : List ℕ → (List ℕ → Course) → Course

-- it goes on by the value of a part, or answers with it
abbrev pub then_on : {A : Type 0} → CourseStage A → (A → Course) → Course
then_on (Ok x) next = next x
then_on (Err answer) next = answers answer
