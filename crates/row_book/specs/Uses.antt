-- Which packages name which: for each number the packages whose row has a clause that holds it.
use Rattle.std.specs.Prelude.{◌≡◌, ℕ, ◌<◌, ◌≤◌, ◌-◌, ◌⊎◌, Bool, List, [], map, filter, length}
use Rattle.std.specs.{Prelude.{slice_index_or, Result, Ok, Err}, List.{list_any}, Global.{Vec}}
use Rattle.std.specs.Vec.{vec_capacity, vec_len}
use Rattle.clause_pool.specs.Interned.{Interned, row_at}
use Rattle.row_book.specs.{Sets.{NumSet}, Numbers.{numbers}}
use Rattle.listed.specs.Lists.{In, has, Ascending}

-- the id of the row of a package
abbrev pub row_id : List ℕ → ℕ → ℕ
row_id rows p = slice_index_or rows p 0

-- one of the clauses holds the number
abbrev pub some_holds : List (List ℕ) → ℕ → Bool
some_holds clauses n = list_any (λ c. has c n) clauses

-- a clause of the row holds the number
abbrev pub row_holds : Interned → ℕ → ℕ → Bool
row_holds pool id n = some_holds (row_at pool id) n

-- the packages whose row has a clause that holds the number, ascending
abbrev pub users_of : Interned → List ℕ → ℕ → List ℕ
users_of pool rows n = filter (λ p. row_holds pool (row_id rows p) n) (numbers (length rows) 0)

-- for each number its users
unfoldable pub uses_of : Interned → List ℕ → List (List ℕ)
uses_of pool rows = map (users_of pool rows) (numbers (length rows) 0)

-- members of the first list, and of these at least all that are not in the second
pub record HoldsDifference (first second found : List ℕ) : Type 0 where
  pub part : (x : ℕ) → In x found → In x first
  pub rest : (x : ℕ) → In x first → In x found ⊎ In x second

-- the members of a set, ascending
pub record IsListOf (S : NumSet) (xs : List ℕ) : Type 0 where
  pub ascending : Ascending xs
  pub members : (m : ℕ) → has xs m ≡ S m

-- the place of the number in the list, or the place between the lesser and the greater ones if it
-- is not there
abbrev pub IsPlaceOf : List ℕ → ℕ → Result ℕ ℕ → Type 0
IsPlaceOf xs n (Ok i) = (i < length xs) × (slice_index_or xs i 0 ≡ n)
IsPlaceOf xs n (Err i) = (i ≤ length xs) × ((k : ℕ) → k < i → slice_index_or xs k 0 < n)
    × ((k : ℕ) → i ≤ k → k < length xs → n < slice_index_or xs k 0)

-- the lists of a table
abbrev pub lists_in : List (Vec ℕ) → List (List ℕ)
lists_in table = map (λ v. v.items) table

-- the list of a number in a table; empty if the table has none
abbrev pub list_in : List (Vec ℕ) → ℕ → List ℕ
list_in table n = slice_index_or (lists_in table) n []

-- how many more packages the list of a number takes without new memory
abbrev pub room_in : List (Vec ℕ) → ℕ → ℕ
room_in table n = slice_index_or (map (λ v. vec_capacity v - vec_len v) table) n 0
