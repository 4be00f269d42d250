-- An index by linear probing: a vector of places. The number of an entry is found by a walk that
-- begins at the place given by its hash.
use Rattle.std.specs.Prelude.{◌≡◌, ℕ, ◌<◌, ◌≤◌, ◌+◌, ◌-◌, ◌*◌, ◌^◌, ◌⊎◌, List, length}
use Rattle.std.specs.{Prelude.{slice_index_or, set, bit_and}, List.{sum_by}}
use Rattle.std.proofs.Common.{zero, suc}

-- the place at which the walk of a hash begins, in an index of this size
unfoldable pub home : ℕ → ℕ → ℕ
home hash size = bit_and hash (size - 1)

-- a place holds a hash and the number of an entry plus one; in an empty place the latter is zero
abbrev pub place_at : List (ℕ × ℕ) → ℕ → ℕ × ℕ
place_at places place = slice_index_or places place (0, 0)

abbrev pub one_if_zero : ℕ → ℕ
one_if_zero zero = 1
one_if_zero (suc n) = 0

abbrev pub is_free : ℕ × ℕ → ℕ
is_free place = one_if_zero place.1

-- how many places are empty
abbrev pub free : List (ℕ × ℕ) → ℕ
free places = sum_by is_free places

-- this number of steps leads from a start to a place; after the last place comes the first
abbrev pub Reaches : ℕ → ℕ → ℕ → ℕ → Type 0
Reaches size start steps place =
    (place < size) × ((place ≡ start + steps) ⊎ (place + size ≡ start + steps))

-- no place before this step of the walk is empty
abbrev pub NoneFreeBefore : List (ℕ × ℕ) → ℕ → ℕ → Type 0
NoneFreeBefore places start steps = (k place : ℕ) → k < steps →
    Reaches (length places) start k place → 0 < (place_at places place).1

-- the first empty place on a walk
pub record IsFirstFree (places : List (ℕ × ℕ)) (start place : ℕ) : Type 0 where
  pub steps : ℕ
  pub short : steps < length places
  pub reached : Reaches (length places) start steps place
  pub empty : (place_at places place).1 ≡ 0
  pub filled : NoneFreeBefore places start steps

-- the entry of a number is found from a start, with no empty place between
pub record IsFoundFrom (places : List (ℕ × ℕ)) (start hash number : ℕ) : Type 0 where
  pub steps : ℕ
  pub place : ℕ
  pub short : steps < length places
  pub reached : Reaches (length places) start steps place
  pub names : place_at places place ≡ (hash, number + 1)
  pub filled : NoneFreeBefore places start steps

-- an entry, which is the number plus one, is put at the first empty place on the walk of its hash
pub record Puts (old new : List (ℕ × ℕ)) (hash entry : ℕ) : Type 0 where
  pub place : ℕ
  pub at : IsFirstFree old (home hash (length old)) place
  pub now : new ≡ set old place (hash, entry)

-- each entry is found by its hash, each place that is not empty names an entry with its hash, and
-- the other places are empty
pub record IsIndex (places : List (ℕ × ℕ)) (hashes : List ℕ) : Type 0 where
  pub found : (number : ℕ) → number < length hashes →
      IsFoundFrom places (home (slice_index_or hashes number 0) (length places))
      (slice_index_or hashes number 0) number
  pub named : (place : ℕ) → place < length places → 0 < (place_at places place).1 →
      (place_at places place).1 ≤ length hashes
  pub room : free places + length hashes ≡ length places

-- an index without places, or with a power of two of them
abbrev pub IsSize : ℕ → Type 0
IsSize size = (size ≡ 0) ⊎ ((k : ℕ) × (size ≡ 2 ^ k))

-- an index that is at least half empty and has a fitting size
pub record IsTable (places : List (ℕ × ℕ)) (hashes : List ℕ) : Type 0 where
  pub index : IsIndex places hashes
  pub half : 2 * length hashes ≤ length places
  pub size : IsSize (length places)
