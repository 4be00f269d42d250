-- Sets of packages as rows of flags, one flag for each package, and the tests for healthy ones.
use Rattle.std.specs.Prelude.{◌≡◌, ℕ, Bool, true, false, not, ◌&&◌, ◌||◌, List, ◌++◌, length}
use Rattle.std.specs.{Prelude.{slice_index_or}, List.{list_all, list_any, zip}}

abbrev pub flag : List Bool → ℕ → Bool
flag flags n = slice_index_or flags n false

-- the set hits each clause of the row
abbrev pub hits_row : List Bool → List (List ℕ) → Bool
hits_row flags row = list_all (λ c. list_any (flag flags) c) row

-- each clause of each member is hit
abbrev pub is_abundant : List (List (List ℕ)) → List Bool → Bool
is_abundant clauses flags = list_all (λ w. not w.1 || hits_row flags w.0) (zip clauses flags)

-- no member conflicts with a member
abbrev pub is_peaceful : List (List ℕ) → List Bool → Bool
is_peaceful conflicts flags =
    list_all (λ w. not w.1 || not (list_any (flag flags) w.0)) (zip conflicts flags)

-- the set is healthy and contains the wanted packages
abbrev pub is_solution : List (List (List ℕ)) → List (List ℕ) → List ℕ → List Bool → Bool
is_solution clauses conflicts wanted flags =
    is_abundant clauses flags && is_peaceful conflicts flags && list_all (flag flags) wanted

-- `left` more flags make the row a healthy set with the wanted packages
pub record Extends (clauses : List (List (List ℕ))) (conflicts : List (List ℕ)) (wanted : List ℕ)
    (flags : List Bool) (left : ℕ) : Type 0 where
  pub more : List Bool
  pub count : length more ≡ left
  pub solves : is_solution clauses conflicts wanted (flags ++ more) ≡ true
