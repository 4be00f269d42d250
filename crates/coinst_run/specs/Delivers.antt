-- What the two sinks take of an answer, and the status.
use Rattle.std.specs.Prelude.{◌≡◌, ℕ, ◌<◌, ◌≤◌, ◌⊎◌, List, [], ◌++◌, drop, length, take, Option}
use Rattle.std.specs.{Prelude.{Some, None, ⊤}, Io.KnownBytes.{Appends}}
use Rattle.byte_flow.specs.{Flow.{Rose}, Models.{SinkModel}, Transfer.{LastWriteFailed, Sent}}
use Rattle.coinst_run.specs.declared.answer.ReportVerdict.{ReportVerdict}
use Rattle.coinst_run.specs.declared.status.Status.{Status}
use Rattle.coinst_run.specs.declared.status.Status.TheVariants.{Memory, WriteFault}
use Rattle.coinst_run.specs.{Answer.{reported, refused}, Lines.{cut_line, memory_line}}
use Rattle.coinst_run.specs.Outcome.{Outcome, answered, unread, not_a_command, line_of, status_of}
use Rattle.coinst_run.specs.Status.{verdict_status}

-- The sink is reached from the sink `old` by writes, and these bytes are left. Each write was given
-- a front of what was left of the line, and took at least one byte.
pub data Offered {E : Type 0} (N : SinkModel E) (old : E) (line : List ℕ) : E →
    List ℕ → Type 0 where
  not_begun : Offered N old line old line
  offered_on : {s t : E} {n : ℕ} (front left : List ℕ) → Offered N old line s (front ++ left) →
      N.write_gives s front (Some n) t → 0 < n → Offered N old line t (drop n front ++ left)

-- the last call was a write of a front of what was left, not nothing, and it failed
pub record LastOfferFailed {E : Type 0} (N : SinkModel E) (old : E) (line : List ℕ)
    (new : E) : Type 0 where
  pub before : E
  pub front : List ℕ
  pub left : List ℕ
  pub some : 0 < length front
  pub offered : Offered N old line before (front ++ left)
  pub last : N.write_gives before front None new

-- Standard error took the line, by the writes of it and no others, or after a failed write, the
-- last, a front of it.
pub record Tells {E : Type 0} (N : SinkModel E) (old new : E) (line : List ℕ) : Type 0 where
  pub took : Appends (N.taken old) (N.taken new) line ⊎ (Rose (N.faults old) (N.faults new)
      × ((n : ℕ) × Appends (N.taken old) (N.taken new) (take n line)))
  pub calls : Offered N old line new [] ⊎ LastOfferFailed N old line new

-- an outcome without a report
abbrev pub IsStop : Outcome → Type 0
IsStop (answered (reported verdict report)) = ⊥
IsStop (answered (refused cause line)) = ⊤
IsStop (unread path) = ⊤
IsStop not_a_command = ⊤

-- The report was taken whole, by the writes of it and no others, and no line was written.
pub record IsWritten {O E : Type 0} (N : SinkModel O)
    (out : O) (err : E) (verdict : ReportVerdict) (report : List ℕ) (result : Status)
    (out_after : O) (err_after : E) : Type 0 where
  pub status : result ≡ verdict_status verdict
  pub calls : Sent N out report out_after []
  pub took : Appends (N.taken out) (N.taken out_after) report
  pub quiet : err_after ≡ err

-- A write of the report failed, the last, and the line says how many bytes were taken before it.
pub record IsCutOff {O E : Type 0} (N : SinkModel O) (L : SinkModel E)
    (out : O) (err : E) (report : List ℕ) (result : Status) (out_after : O)
    (err_after : E) : Type 0 where
  pub status : result ≡ WriteFault
  pub calls : LastWriteFailed N out report out_after
  pub written : ℕ
  pub short : written < length report
  pub took : Appends (N.taken out) (N.taken out_after) (take written report)
  pub rose : Rose (N.faults out) (N.faults out_after)
  pub roomless : length report ≤ N.room out → ⊥
  pub line : Tells L err err_after (cut_line written)

-- There is no report. Standard error is given the line of the outcome, or that of want of memory.
abbrev pub IsRefused : {E : Type 0} → SinkModel E → E → Option Outcome → Status → E → Type 0
IsRefused L err None result after = (result ≡ Memory) × Tells L err after memory_line
IsRefused L err (Some outcome) result after =
    IsStop outcome × (result ≡ status_of outcome) × Tells L err after (line_of outcome)

-- What the sinks take, by the ending, which alone decides the status and the line: that a write of
-- the line fails changes neither.
pub data Delivers {O E : Type 0} (N : SinkModel O) (L : SinkModel E)
    (out : O) (err : E) (result : Status) (out_after : O) (err_after : E) : Option Outcome →
    Type 0 where
  a_report : (verdict : ReportVerdict) (report : List ℕ) →
      IsWritten N out err verdict report result out_after err_after →
      Delivers N L out err result out_after err_after (Some (answered (reported verdict report)))
  a_cut_report : (verdict : ReportVerdict) (report : List ℕ) →
      IsCutOff N L out err report result out_after err_after →
      Delivers N L out err result out_after err_after (Some (answered (reported verdict report)))
  a_refusal : (ending : Option Outcome) → out_after ≡ out →
      IsRefused L err ending result err_after →
      Delivers N L out err result out_after err_after ending
