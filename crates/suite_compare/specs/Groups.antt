-- Items at their places, and places under keys.
use Rattle.std.specs.Prelude.{◌≡◌, ℕ, ◌<◌, ◌⊎◌, List, length, slice_index_or}
use Rattle.listed.specs.Lists.{In}
use Rattle.row_book.specs.Book.{listed_for}

-- n items, each right at its place
pub record AreEach {X : Type 0} (P : ℕ → X → Type 0) (d : X) (n : ℕ) (xs : List X) : Type 0 where
  pub long : length xs ≡ n
  pub each : (k : ℕ) → k < n → P k (slice_index_or xs k d)

-- the number is added under the key, and nothing else is new
pub record IsEntered (old new : List (List ℕ)) (key x : ℕ) : Type 0 where
  pub only : (k y : ℕ) → In y (listed_for new k) → In y (listed_for old k) ⊎ ((k ≡ key) × (y ≡ x))
  pub kept : (k y : ℕ) → In y (listed_for old k) → In y (listed_for new k)
  pub entered : In x (listed_for new key)

-- under each key those of the first n places at which it is
pub record ArePlacesTo (n : ℕ) (keys : List ℕ) (table : List (List ℕ)) : Type 0 where
  pub only : (k i : ℕ) → In i (listed_for table k) → (i < n) × (slice_index_or keys i 0 ≡ k)
  pub all : (i : ℕ) → i < n → In i (listed_for table (slice_index_or keys i 0))

-- and all places
abbrev pub ArePlaces : List ℕ → List (List ℕ) → Type 0
ArePlaces keys table = ArePlacesTo (length keys) keys table
