-- Numbers of the items of a list.
use Rattle.std.specs.Prelude.{ℕ, Bool, false, if◌then◌else◌, List, [], ◌∷◌, map, filter, slice_get}
use Rattle.std.specs.{List.{enumerate_from}, Option.{option_map_or}}

-- the numbers of the items that pass the test, ascending; the items are numbered from n in their
-- order
abbrev pub numbers_from : {X : Type 0} → ℕ → (X → Bool) → List X → List ℕ
numbers_from n test items = map (λ e. e.0) (filter (λ e. test e.1) (enumerate_from n items))

-- the numbers of the items that pass the test, ascending; the items are numbered from 0
abbrev pub numbers_where : {X : Type 0} → (X → Bool) → List X → List ℕ
numbers_where test items = numbers_from 0 test items

-- there is an item with that number, and it passes the test
abbrev pub passes_at : {X : Type 0} → (X → Bool) → List X → ℕ → Bool
passes_at test items n = option_map_or test (slice_get items n) false

-- the number, if the test holds
abbrev pub if_so : Bool → ℕ → List ℕ
if_so holds number = if holds then number ∷ [] else []
