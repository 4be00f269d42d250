-- The exit status of each status, and the status of each verdict and each refusal.
use Rattle.std.specs.Prelude.{ℕ}
use Rattle.coinst_run.specs.declared.answer.Cause.{Cause}
use Rattle.coinst_run.specs.declared.answer.Cause.TheVariants as cause
use Rattle.coinst_run.specs.declared.answer.ReportVerdict.{ReportVerdict}
use Rattle.coinst_run.specs.declared.answer.ReportVerdict.TheVariants as verdict
use Rattle.coinst_run.specs.declared.status.Status.{Status}
use Rattle.coinst_run.specs.declared.status.Status.TheVariants.{Done, Negative, Words, Content}
use Rattle.coinst_run.specs.declared.status.Status.TheVariants.{ClauseLimit, ReadFault, WriteFault}
use Rattle.coinst_run.specs.declared.status.Status.TheVariants.{Memory, Undecided, UnknownGoal}
use Rattle.coinst_run.specs.declared.status.Status.TheVariants.{TooLarge}

abbrev pub code_of : Status → ℕ
code_of Done = 0
code_of Negative = 1
code_of Words = 2
code_of Content = 3
code_of ClauseLimit = 4
code_of ReadFault = 5
code_of WriteFault = 6
code_of Memory = 7
code_of Undecided = 8
code_of UnknownGoal = 9
code_of TooLarge = 10

abbrev pub verdict_status : ReportVerdict → Status
verdict_status verdict.Done = Done
verdict_status verdict.Negative = Negative
verdict_status verdict.Undecided = Undecided

abbrev pub cause_status : Cause → Status
cause_status cause.Content = Content
cause_status cause.ClauseLimit = ClauseLimit
cause_status cause.UnknownGoal = UnknownGoal
cause_status cause.TooLarge = TooLarge
