-- What contracts may say of a shelf and of a sink: what these hold, what their calls may answer,
-- and how a call may leave them.
use Rattle.std.specs.Prelude.{ℕ, Bool, List, Option}
use Rattle.byte_flow.specs.Flow.{Files}

pub record ShelfModel (S : Type 0) : Type 1 where
  -- the bytes of each path, if the shelf says them
  pub contents : S → Option Files
  -- the unread rest of the started file, if the shelf says it; no bytes if none is started
  pub rest : S → Option (List ℕ)
  -- how many calls have failed; the count stands still at 2^64 - 1
  pub faults : S → ℕ
  -- how many bytes were read since the last start; the number stands still at 2^64 - 1
  pub moved : S → ℕ
  -- every call from now on succeeds, but for a start of a path that is not there
  pub is_quiet : S → Type 0
  -- what a start of a path may answer, success or not, and leave
  pub start_gives : S → List ℕ → Bool → S → Type 0
  -- which bytes a read that asks for this number may hand over, none for a failure, and what it may
  -- leave
  pub read_gives : S → ℕ → Option (List ℕ) → S → Type 0

pub record SinkModel (S : Type 0) : Type 1 where
  -- the bytes taken, if the sink says them
  pub taken : S → Option (List ℕ)
  -- how many writes have failed; the count stands still at 2^64 - 1
  pub faults : S → ℕ
  -- a number of bytes that are taken without a failure
  pub room : S → ℕ
  -- what a write of a piece may answer, none for a failure, and leave
  pub write_gives : S → List ℕ → Option ℕ → S → Type 0
