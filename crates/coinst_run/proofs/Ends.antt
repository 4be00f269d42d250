-- How a course ends.
use Rattle.std.proofs.Common.{◌≡◌, ℕ, List, Option, Some, None}
use Rattle.coinst_run.specs.Outcome.{Outcome, unread}

-- How a course ended where its outcome is told: so, or at a file that could not be read, or without memory. On a quiet
-- shelf only a file that is not there can't be read, and so says the outcome.
pub data EndsAs (Quiet : Type 0) (o : Outcome) : Option Outcome → Type 0 where
  as_told : EndsAs Quiet o (Some o)
  at_an_unread_file : (path : List ℕ) → (Quiet → o ≡ unread path) → EndsAs Quiet o (Some (unread path))
  without_memory : EndsAs Quiet o None
