-- Lists of numbers by hashes.
use Rattle.std.specs.Prelude.{◌≡◌, ℕ, ◌-◌, ◌++◌, Bool, false, ◌==◌, eqb, nat_eq, if◌then◌else◌}
use Rattle.std.specs.Prelude.{List, [], ◌∷◌, length, slice_get}
use Rattle.std.specs.Hash.FoldHasher as folding
use Rattle.std.specs.Option.{option_map_or}
use Rattle.indexmap.specs.IndexMap.{get}
use Rattle.package_register.specs.declared.hashed.NumberList.{NumberList}
use Rattle.package_register.specs.declared.hashed.NumberList.TheVariants.{One, Many}
use Rattle.package_register.specs.declared.hashed.NumbersByHash.{NumbersByHash}

-- a number that is the same for equal texts
unfoldable pub hash_of : List ℕ → ℕ
hash_of text = folding.finish (folding.write folding.initial text)

-- the last of the numbers is this one
abbrev pub ends_in : ℕ → List ℕ → Bool
ends_in n numbers = option_map_or (λ last. last == n) (slice_get numbers (length numbers - 1)) false

-- the numbers with one more at the end, unless it is already last
abbrev pub with_number : ℕ → List ℕ → List ℕ
with_number n numbers = if ends_in n numbers then numbers else numbers ++ n ∷ []

-- the numbers of a list
abbrev pub numbers_of : NumberList → List ℕ
numbers_of (One number) = number ∷ []
numbers_of (Many numbers) = numbers.items

-- the numbers under a hash
unfoldable pub numbers_under : NumbersByHash → ℕ → List ℕ
numbers_under table hash = option_map_or numbers_of (get nat_eq table.lists hash) []

-- no hash has a number
abbrev pub HasNone : NumbersByHash → Type 0
HasNone table = (hash : ℕ) → numbers_under table hash ≡ []

-- the number is appended to those of the hash, and each other hash keeps its own
abbrev pub Puts : NumbersByHash → NumbersByHash → ℕ → ℕ → Type 0
Puts old new hash number = (other : ℕ) → numbers_under new other
    ≡ (if eqb other hash then with_number number (numbers_under old other)
    else numbers_under old other)
