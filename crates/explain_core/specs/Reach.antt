-- Packages within reach of goals, each goal a set of packages: the least set that has the packages
-- of the goals, and with a package each member of its clauses.
use Rattle.std.specs.{Prelude.{ℕ, Bool, not, ◌&&◌, ◌||◌, List, length}, List.{list_all}}
use Rattle.listed.specs.Lists.{is_inside, In, has}
use Rattle.row_book.specs.{Numbers.{subsets}, Repository.{Repository, clauses_of}}
use Rattle.row_book.specs.Sets.{NumSet, Is, Within}

-- the set has the packages of the goals, and with a package each member of its clauses
pub record HoldsNeeds (R : Repository) (goals : List (List ℕ)) (S : NumSet) : Type 0 where
  pub of_goals : (g : List ℕ) → In g goals → (n : ℕ) → In n g → Is S n
  pub of_clauses : (p : ℕ) → Is S p → (c : List ℕ) → In c (clauses_of R p) →
      (n : ℕ) → In n c → Is S n

-- the least such set
pub record IsReach (R : Repository) (goals : List (List ℕ)) (S : NumSet) : Type 0 where
  pub holds : HoldsNeeds R goals S
  pub least : (T : NumSet) → HoldsNeeds R goals T → Within S T

-- the test of a set, as a list
abbrev pub holds_needs : Repository → List (List ℕ) → List ℕ → Bool
holds_needs R goals S = list_all (λ g. is_inside g S) goals
    && list_all (λ p. list_all (λ c. is_inside c S) (clauses_of R p)) S

-- the least such set as a test: a package is in it if each such set of packages has it; nothing is
-- computed by it
unfoldable pub reach_of : Repository → List (List ℕ) → NumSet
reach_of R goals n =
    list_all (λ S. not (holds_needs R goals S) || has S n) (subsets (length R.clauses))
