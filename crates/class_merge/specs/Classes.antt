-- Merging, by a list of the least package of each class and a list of the class of each package.
use Rattle.std.specs.Prelude.{ℕ, ◌<◌, eqb, List, map, filter, length, slice_index_or}
use Rattle.std.specs.List.{list_any}
use Rattle.row_book.specs.Numbers.{numbers}
use Rattle.listed.specs.Lists.{In}
use Rattle.clause_pool.specs.Clauses.{apart_from, minimal_of, in_row_order}

-- the class of a package in a list of classes
abbrev pub class_in : List ℕ → ℕ → ℕ
class_in class_of p = slice_index_or class_of p 0

-- the classes, below a number, that a clause has a member of
unfoldable pub image_in : ℕ → List ℕ → List ℕ → List ℕ
image_in count class_of c =
    filter (λ k. list_any (λ n. eqb (class_in class_of n) k) c) (numbers count 0)

-- the number is a place of the list, and its class is below the number of classes
pub record IsClassed (count : ℕ) (class_of : List ℕ) (n : ℕ) : Type 0 where
  pub listed : n < length class_of
  pub within : class_in class_of n < count

-- each number of a clause has a class below the number of classes
abbrev pub HasClasses : ℕ → List ℕ → List ℕ → Type 0
HasClasses count class_of c = (n : ℕ) → In n c → IsClassed count class_of n

-- the clauses of a class, from those of its least package
abbrev pub clauses_in : ℕ → List ℕ → ℕ → List (List ℕ) → List (List ℕ)
clauses_in count class_of k cs =
    in_row_order (minimal_of (apart_from k (map (image_in count class_of) cs)))
