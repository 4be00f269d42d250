-- The outcome that an answer in memory stands for; none if no memory was found.
use Rattle.std.specs.Prelude.{◌≡◌, ℕ, List, Option, Some, None, Result, Ok, Err, ⊤}
use Rattle.byte_flow.specs.declared.transfer.ReadError.{ReadError}
use Rattle.byte_flow.specs.declared.transfer.ReadError.TheVariants.{Failed, TooLong}
use Rattle.byte_flow.specs.declared.transfer.ReadError.TheVariants as read
use Rattle.coinst_run.specs.{declared.answer.Report.{Report}, declared.answer.Stop.{Stop}}
use Rattle.coinst_run.specs.declared.answer.Stop.TheVariants.{NotACommand, Refused, Unread, Memory}
use Rattle.coinst_words.specs.declared.error.WordError.{WordError}
use Rattle.coinst_words.specs.declared.error.WordError.TheVariants as words
use Rattle.coinst_run.specs.{Answer.{CourseStage, reported, refused}, Course.{Course, answers}}
use Rattle.coinst_run.specs.Outcome.{Outcome, answered, unread, not_a_command, too_long}

abbrev pub stop_ending : Stop → Option Outcome
stop_ending NotACommand = Some not_a_command
stop_ending (Refused cause line) = Some (answered (refused cause line.items))
stop_ending (Unread path) = Some (unread path)
stop_ending Memory = None

abbrev pub ending_of : Result Report Stop → Option Outcome
ending_of (Ok report) = Some (answered (reported report.verdict report.text.items))
ending_of (Err stop) = stop_ending stop

-- the outcome of a file that was not read whole, by the error; want of memory has none
abbrev pub IsReadEnding : List ℕ → ReadError → Outcome → Type 0
IsReadEnding path Failed outcome = outcome ≡ unread path
IsReadEnding path TooLong outcome = outcome ≡ answered (too_long path)
IsReadEnding path read.Memory outcome = ⊥

-- words that give no job
abbrev pub word_stop : WordError → Stop
word_stop words.NotACommand = NotACommand
word_stop words.Memory = Memory

-- the ending is the answer of the part, or no memory was found
abbrev pub StopsAt : {A : Type 0} → CourseStage A → Option Outcome → Type 0
StopsAt stage None = ⊤
StopsAt stage (Some (answered answer)) = stage ≡ Err answer
StopsAt stage (Some (unread path)) = ⊥
StopsAt stage (Some not_a_command) = ⊥

-- the ending is the answer of the course, which reads no more, or no memory was found
abbrev pub Settles : Course → Option Outcome → Type 0
Settles course None = ⊤
Settles course (Some (answered answer)) = course ≡ answers answer
Settles course (Some (unread path)) = ⊥
Settles course (Some not_a_command) = ⊥
