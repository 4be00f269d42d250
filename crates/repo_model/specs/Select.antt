-- for the bodies of this crate alone
-- Packages that are chosen from a suite.
use Rattle.std.specs.Prelude.{◌≡◌, ℕ, ◌<◌, List, [], Option, Some, None, length, slice_index_or}

-- if a list of the whole suite has a place among the chosen ones, it is the list at that place
pub record AreRenamed {A : Type 0} (distinct : List (List A)) (places : List (Option ℕ))
    (chosen : List (List A)) : Type 0 where
  pub sized : length places ≡ length distinct
  pub at : (mark place : ℕ) → slice_index_or places mark None ≡ Some place →
      (place < length chosen) × (slice_index_or chosen place [] ≡ slice_index_or distinct mark [])
