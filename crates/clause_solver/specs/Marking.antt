-- Marked literals, in the order in which they were marked.
use Rattle.std.specs.Prelude.{◌≡◌, ℕ, ◌+◌, ◌*◌, ◌<◌, Bool, false, not, List, All, length, take}
use Rattle.std.specs.{Prelude.{slice_get, Some, count_by}, List.{list_any}}
use Rattle.search_terms.specs.{declared.literals.Literal.{Literal}, Closure.{is_same}}
use Rattle.search_terms.specs.Marks.{is_marked}

-- the set of the literals of a list
abbrev pub set_of_trail : List Literal → Literal → Bool
set_of_trail trail l = list_any (λ m. is_same m l) trail

-- no literal is listed twice
abbrev pub EachOnce : List Literal → Type 0
EachOnce trail = (k : ℕ) (l : Literal) → slice_get trail k ≡ Some l →
    set_of_trail (take k trail) l ≡ false

-- two flags for each of n classes, up for the literals of the trail
pub record IsMarked (n : ℕ) (flags : List Bool) (trail : List Literal) : Type 0 where
  pub long : length flags ≡ n * 2
  pub marks : (l : Literal) → is_marked flags l ≡ set_of_trail trail l
  pub once : EachOnce trail
  pub few : length trail + count_by not flags ≡ n * 2
  pub ranged : All (λ l. l.class < n) trail
