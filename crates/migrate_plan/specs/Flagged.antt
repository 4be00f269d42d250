-- for the bodies of this crate alone
-- Flags that are raised.
use Rattle.std.specs.Prelude.{◌≡◌, ℕ, ◌<◌, Bool, ◌||◌, List, length}
use Rattle.row_book.specs.Flags.{flag}
use Rattle.listed.specs.Lists.{has}

-- the flags that were up are up, and those of these numbers
pub record Raises (old : List Bool) (numbers : List ℕ) (new : List Bool) : Type 0 where
  pub count : length new ≡ length old
  pub each : (n : ℕ) → n < length old → flag new n ≡ (flag old n || has numbers n)
