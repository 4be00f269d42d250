-- Packages that exclude each other by what they need. The sides of a package are the package alone
-- and each of its clauses. A healthy set with the package has a member of each side.
use Rattle.std.specs.{Prelude.{ℕ, Bool, List, [], ◌∷◌, filter}, List.{list_all, list_any}}
use Rattle.listed.specs.Lists.{has}
use Rattle.row_book.specs.{Book.{listed_for}, Repository.{Repository, clauses_of}}

-- the package alone, and each of its clauses
abbrev pub sides : Repository → ℕ → List (List ℕ)
sides R p = (p ∷ []) ∷ clauses_of R p

-- by the test, each member of d conflicts with each member of e
abbrev pub all_against : (ℕ → ℕ → Bool) → List ℕ → List ℕ → Bool
all_against test d e = list_all (λ m. list_all (test m) e) d

-- by the test, some set of ds conflicts as a whole with some set of es
abbrev pub face : (ℕ → ℕ → Bool) → List (List ℕ) → List (List ℕ) → Bool
face test ds es = list_any (λ d. list_any (all_against test d) es) ds

-- whether the table has n among the conflicts of m
abbrev pub against_in : List (List ℕ) → ℕ → ℕ → Bool
against_in table m n = has (listed_for table m) n

-- the packages that conflict with the first and with each of the others, by the table
abbrev pub common_to : List (List ℕ) → ℕ → List ℕ → List ℕ
common_to table first others =
    filter (λ n. list_all (λ m. against_in table m n) others) (listed_for table first)
