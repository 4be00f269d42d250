-- Elements of lists, ascending lists of numbers, and which of them lie within others.
use Rattle.std.specs.{Prelude.{ℕ, ◌<◌, Bool, eqb, List, [], ◌∷◌}, List.{list_all, list_any}}

-- one of the elements of a list
pub data In {A : Type 0} : A → List A → Type 0 where
  here : {x : A} {xs : List A} → In x (x ∷ xs)
  there : {x y : A} {xs : List A} → In x xs → In x (y ∷ xs)

-- a set of numbers as a list: ascending, each number once
abbrev pub Ascending : List ℕ → Type 0
Ascending [] = Unit {0}
Ascending (x ∷ xs) = ((y : ℕ) → In y xs → x < y) × Ascending xs

-- whether the list has the number
abbrev pub has : List ℕ → ℕ → Bool
has xs n = list_any (λ m. eqb n m) xs

-- each number of the first list is in the second
abbrev pub Inside : List ℕ → List ℕ → Type 0
Inside S T = (n : ℕ) → In n S → In n T

-- whether each number of the first list is in the second
abbrev pub is_inside : List ℕ → List ℕ → Bool
is_inside S T = list_all (λ n. has T n) S
