-- for the bodies of this crate alone
-- How far a walk of the tree has come that goes without recursion.
use Rattle.std.specs.Prelude.{◌≡◌, ℕ, ◌+◌, Bool, true, false, List, [], ◌∷◌, ◌++◌, None, map}
use Rattle.search_terms.specs.{declared.literals.Literal.{Literal}, Closure.{literal}}
use Rattle.search_terms.specs.Tree.{Tree, IsTree, found_of, failed_leaves, log_of}
use Rattle.search_terms.specs.Tree.Tree.{failed_leaf, found_leaf, split}
use Rattle.clause_solver.specs.Verdicts.{IsKept}

-- the walk has come to a subtree, down a path of signs, with this number of failed leaves and these
-- entries before it
abbrev pub Stands : Tree → List Literal → List Bool → Tree → List Literal → ℕ →
    List (List Literal) → Type 0
Stands tree ds [] sub below failed log = (sub ≡ tree) × (below ≡ ds) × (failed ≡ 0) × (log ≡ [])
Stands failed_leaf ds (b ∷ path) sub below failed log = ⊥
Stands (found_leaf chosen) ds (b ∷ path) sub below failed log = ⊥
Stands (split c left right) ds (true ∷ path) sub below failed log =
    Stands left (ds ++ literal c true ∷ []) path sub below failed log
Stands (split c left right) ds (false ∷ path) sub below failed log =
    (found_of left ≡ None)
    × ((rest : ℕ) × (entries : List (List Literal)) × (failed ≡ failed_leaves left + rest)
    × (log ≡ log_of (ds ++ literal c true ∷ []) left ++ entries)
    × Stands right (ds ++ literal c false ∷ []) path sub below rest entries)

-- the path of signs that decisions lead down
abbrev pub signs : List Literal → List Bool
signs decisions = map (λ l. l.positive) decisions

-- for whichever tree the formula has: the walk has come to some part of it
abbrev pub StandsIn : ℕ → List (List Literal) → List Literal → ℕ → List (List Literal) → Type 0
StandsIn classes formula decisions failed log =
    (tree : Tree) → IsTree classes formula [] tree →
    (sub : Tree) × Stands tree [] (signs decisions) sub decisions failed log

-- the walk has passed a part in which nothing is found; its failed leaves and entries are counted
-- already
pub record IsPast (tree : Tree) (decisions : List Literal) (failed : ℕ)
    (log : List (List Literal)) : Type 0 where
  pub sub : Tree
  pub before : ℕ
  pub logged : List (List Literal)
  pub stands : Stands tree [] (signs decisions) sub decisions before logged
  pub none : found_of sub ≡ None
  pub count : failed ≡ before + failed_leaves sub
  pub entries : log ≡ logged ++ log_of decisions sub

-- for whichever tree the formula has: the walk has passed such a part
abbrev pub StandsPast : ℕ → List (List Literal) → List Literal → ℕ → List (List Literal) → Type 0
StandsPast classes formula decisions failed log = (tree : Tree) → IsTree classes formula [] tree →
    IsPast tree decisions failed log

-- how far a walk has come that keeps a log, or keeps none
abbrev pub WalksIn : Bool → ℕ → List (List Literal) → List Literal → ℕ →
    List (List Literal) → Type 0
WalksIn keeps classes formula decisions failed log =
    (entries : List (List Literal)) × IsKept keeps log entries
    × StandsIn classes formula decisions failed entries

abbrev pub WalksPast : Bool → ℕ → List (List Literal) → List Literal → ℕ →
    List (List Literal) → Type 0
WalksPast keeps classes formula decisions failed log =
    (entries : List (List Literal)) × IsKept keeps log entries
    × StandsPast classes formula decisions failed entries
