-- Where a list stands among others.
use Rattle.std.specs.Prelude.{◌≡◌, ℕ, ◌<◌, List, [], length, slice_index_or}

-- the list stands among the lists at the place
abbrev pub StandsAt : {A : Type 0} → List A → List (List A) → ℕ → Type 0
StandsAt list lists place = (place < length lists) × (slice_index_or lists place [] ≡ list)
