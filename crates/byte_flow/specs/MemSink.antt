-- A sink in memory: what it took, the room made, its listed calls, and what a write does to them.
use Rattle.std.specs.Prelude.{◌≡◌, ℕ, ◌-◌, min, Bool, ◌||◌, List, ◌++◌, length, take, Option, Some}
use Rattle.std.specs.Prelude.{None, is_some, unwrap_or, nat_lt, if◌then◌else◌}
use Rattle.byte_flow.specs.{declared.mem_sink.MemSink.{MemSink}, Flow.{faults_after, raised}}
use Rattle.byte_flow.specs.Schedule.{has_pending, is_next_listed}

-- the bytes taken
abbrev pub taken_of : MemSink → List ℕ
taken_of sink = sink.bytes.items

-- the room made so far, with what is taken
abbrev pub made_of : MemSink → ℕ
made_of sink = sink.made

-- the room that is left
abbrev pub left_of : MemSink → ℕ
left_of sink = made_of sink - length (taken_of sink)

-- how many writes were made, up to 2^64 - 1
abbrev pub calls_of : MemSink → ℕ
calls_of sink = sink.schedule.calls

-- the numbers of the writes that fail
abbrev pub listed_of : MemSink → List ℕ
listed_of sink = sink.schedule.listed.items

-- the most that a write takes
abbrev pub step_of : MemSink → ℕ
step_of sink = sink.step

abbrev pub faults_of : MemSink → ℕ
faults_of sink = sink.faults.number

-- whether a listed write is still to come
abbrev pub is_waiting : MemSink → Bool
is_waiting sink = has_pending (calls_of sink) (listed_of sink)

-- the room that is sure: what is left, or none if a listed write is still to come
abbrev pub room_of : MemSink → ℕ
room_of sink = if is_waiting sink then 0 else left_of sink

-- how many bytes of a piece a write takes if it does not fail
abbrev pub front_of : MemSink → List ℕ → ℕ
front_of sink piece = min (step_of sink) (length piece)

-- whether a write fails: it is a listed one, or would take more than the room that is left
abbrev pub is_refused : MemSink → List ℕ → Bool
is_refused sink piece =
    is_next_listed (calls_of sink) (listed_of sink) || nat_lt (left_of sink) (front_of sink piece)

-- the writes made, the listed ones and the step stay
pub record KeepsCalls (old new : MemSink) : Type 0 where
  pub calls : calls_of new ≡ calls_of old
  pub listed : listed_of new ≡ listed_of old
  pub step : step_of new ≡ step_of old

-- a write takes the front of the piece, or takes nothing and raises the count of faults
pub record Written (old : MemSink) (piece : List ℕ) (answer : Option ℕ)
    (new : MemSink) : Type 0 where
  pub given : answer ≡ (if is_refused old piece then None else Some (front_of old piece))
  pub taken : taken_of new ≡ taken_of old ++ take (unwrap_or answer 0) piece
  pub made : made_of new ≡ made_of old
  pub calls : calls_of new ≡ raised (calls_of old)
  pub listed : listed_of new ≡ listed_of old
  pub step : step_of new ≡ step_of old
  pub faults : faults_of new ≡ faults_after (faults_of old) (is_some answer)
