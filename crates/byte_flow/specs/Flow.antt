-- What the calls of a shelf and a sink answer and leave: bytes by paths, counts of faults, bytes
-- moved, room.
use Rattle.std.specs.Prelude.{◌≡◌, Bool, ℕ, ◌+◌, ◌-◌, ◌^◌, ◌<◌, ◌≤◌, min, List, [], length, Option}
use Rattle.std.specs.Prelude.{Some, None, IsSome, IsNone, IsSomeAnd, bytes_eq, if◌then◌else◌}
use Rattle.std.specs.Prelude.{Result, Ok, Err, OnErr, IfOk, ⊤}

-- the bytes of each path; none if the path is not there
abbrev pub Files : Type 0
Files = List ℕ → Option (List ℕ)

-- no path is there
abbrev pub no_files : Files
no_files = λ q. None

-- other files: this path has these bytes, and the others stay
abbrev pub with_file : List ℕ → List ℕ → Files → Files
with_file path bytes files = λ q. if bytes_eq path q then Some bytes else files q

-- a count after one more, up to 2^64 - 1
abbrev pub raised : ℕ → ℕ
raised count = min (count + 1) (2 ^ 64 - 1)

-- a count of faults after a call: raised exactly if the call fails
abbrev pub faults_after : ℕ → Bool → ℕ
faults_after before succeeded = if succeeded then before else raised before

-- the count grew, or it is 2^64 - 1
abbrev pub Rose : ℕ → ℕ → Type 0
Rose before now = raised before ≤ now

-- the count of faults did not fall, and it rose if the call failed
pub record HasCause {T E : Type 0} (before now : ℕ) (result : Result T E) : Type 0 where
  pub later : before ≤ now
  pub failed : OnErr result (Rose before now)

-- the number of bytes moved after a read, up to 2^64 - 1
abbrev pub moved_after : {E : Type 0} → ℕ → Result ℕ E → ℕ
moved_after before (Ok n) = min (before + n) (2 ^ 64 - 1)
moved_after before (Err e) = before

-- If the shelf says its contents, a start succeeds only if the path is there, and the rest is then
-- the whole file. After a failure no file is started, and nothing is left to read.
abbrev pub Starts : {T E : Type 0} → Option Files → List ℕ → Result T E → Option (List ℕ) → Type 0
Starts None path result rest = ⊤
Starts (Some files) path (Ok u) rest = IsSome (files path) × (rest ≡ files path)
Starts (Some files) path (Err e) rest = rest ≡ Some []

-- the shelf says its contents, and the path is not there
abbrev pub LacksFile : Option Files → List ℕ → Type 0
LacksFile None path = ⊥
LacksFile (Some files) path = IsNone (files path)

-- if the shelf says its contents, these are the bytes of the path
abbrev pub FileIs : Option Files → List ℕ → List ℕ → Type 0
FileIs None path bytes = ⊤
FileIs (Some files) path bytes = files path ≡ Some bytes

-- if the shelf says its contents, the path has more bytes than the limit
abbrev pub FileIsLonger : Option Files → List ℕ → ℕ → Type 0
FileIsLonger None path limit = ⊤
FileIsLonger (Some files) path limit = IsSomeAnd (files path) (λ bytes. limit < length bytes)

-- a front of the piece was taken, of at least one byte if the piece is not empty
abbrev pub MakesHeadway : {E : Type 0} → Result ℕ E → List ℕ → Type 0
MakesHeadway result piece = IfOk result (λ n. (n ≤ length piece) × (0 < length piece → 0 < n))

-- the room that a write used up: the bytes that it took
abbrev pub room_spent : {E : Type 0} → Result ℕ E → ℕ
room_spent (Ok n) = n
room_spent (Err e) = 0
