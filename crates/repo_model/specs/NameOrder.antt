-- for the bodies of this crate alone
-- Names in the order of their bytes.
use Rattle.std.specs.Prelude.{◌≡◌, ℕ, ◌<◌, ◌≤◌, ◌-◌, Bool, false, ◌&&◌, nat_lt, List, [], length}
use Rattle.std.specs.{Prelude.{slice_index_or}, Str.{bytes_eq}}
use Rattle.clause_pool.specs.Clauses.{comes_before}

-- the name at a place
abbrev pub name_at : List (List ℕ) → ℕ → List ℕ
name_at names place = slice_index_or names place []

-- no name comes before an earlier one
abbrev pub Rising : List (List ℕ) → Type 0
Rising names = (i j : ℕ) → i ≤ j → j < length names →
    comes_before (name_at names j) (name_at names i) ≡ false

-- whether the name at a place is also at the place before it
abbrev pub is_repeated : List (List ℕ) → ℕ → Bool
is_repeated names place =
    nat_lt 0 place && bytes_eq (name_at names (place - 1)) (name_at names place)
