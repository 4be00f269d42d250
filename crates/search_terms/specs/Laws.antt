-- The laws of search trees and logs.
use Rattle.std.specs.Prelude.{◌≡◌, ◌↔◌, ℕ, ◌+◌, ◌*◌, ◌^◌, ◌<◌, ◌≤◌, Bool, false, List, [], length}
use Rattle.std.specs.Prelude.{None, Some, slice_index_or}
use Rattle.row_book.specs.{Sets.{NumSet, Is, HitsAll}, Repository.{Repository, Healthy}}
use Rattle.row_book.specs.Flags.{flag}
use Rattle.search_terms.specs.declared.literals.Literal.{Literal}
use Rattle.search_terms.specs.{Closure.{InRange, Models, HaveNoModel}, Derives.{Derives}}
use Rattle.search_terms.specs.Tree.{Tree, IsTree, found_of, failed_leaves, log_of}
use Rattle.search_terms.specs.{SearchTree.{search_tree}, Form.{form}}

-- what a search looks for: a healthy set that hits every goal
abbrev pub Solves : Repository → List (List ℕ) → NumSet → Type 0
Solves R goals I = Healthy R I × HitsAll I goals

-- no healthy set hits every goal
abbrev pub HasNoSolution : Repository → List (List ℕ) → Type 0
HasNoSolution R goals = (I : NumSet) → Healthy R I → HitsAll I goals → ⊥

-- each formula has a tree
abbrev pub TreeIsThere : Type 0
TreeIsThere = (classes : ℕ) (formula : List (List Literal)) → InRange classes formula →
    (tree : Tree) × IsTree classes formula [] tree

-- a formula has one tree at most
abbrev pub TreeIsOne : Type 0
TreeIsOne = (classes : ℕ) (formula : List (List Literal)) (first second : Tree) →
    IsTree classes formula [] first → IsTree classes formula [] second → second ≡ first

-- the tree of a formula is the one that is computed
abbrev pub SearchTreeIs : Type 0
SearchTreeIs = (classes : ℕ) (formula : List (List Literal)) → InRange classes formula →
    IsTree classes formula [] (search_tree classes formula)

-- no tree has more failed leaves than two to the power of the number of classes, so a budget of
-- that many is never spent
abbrev pub BudgetIsEnough : Type 0
BudgetIsEnough = (classes : ℕ) (formula : List (List Literal)) (tree : Tree) →
    InRange classes formula → IsTree classes formula [] tree → failed_leaves tree ≤ 2 ^ classes

-- the largest budget, a million failed leaves, is enough for at most nineteen classes
abbrev pub SmallTreesAreWalked : Type 0
SmallTreesAreWalked = (classes : ℕ) (formula : List (List Literal)) (tree : Tree) → classes ≤ 19 →
    InRange classes formula → IsTree classes formula [] tree → failed_leaves tree ≤ 1000000

-- a log has one entry less than twice the number of the tree's failed leaves
abbrev pub LogIsShort : Type 0
LogIsShort = (tree : Tree) → found_of tree ≡ None →
    length (log_of [] tree) + 1 ≡ 2 * failed_leaves tree

-- what a tree finds is a model
abbrev pub FoundIsModel : Type 0
FoundIsModel = (classes : ℕ) (formula : List (List Literal)) (tree : Tree) (chosen : List Bool) →
    InRange classes formula → IsTree classes formula [] tree → found_of tree ≡ Some chosen
    → Models (λ c. slice_index_or chosen c false) formula

-- the log of a tree that finds nothing derives the empty entry
abbrev pub LogDerives : Type 0
LogDerives = (classes : ℕ) (formula : List (List Literal)) (tree : Tree) →
    IsTree classes formula [] tree → found_of tree ≡ None → Derives formula (log_of [] tree)

-- if a log derives the empty entry, there is no model
abbrev pub DerivesNoModel : Type 0
DerivesNoModel = (formula log : List (List Literal)) → Derives formula log → HaveNoModel formula

-- the models of the formula of a repository and goals are its healthy sets that hit every goal
abbrev pub ModelsAreHealthy : Type 0
ModelsAreHealthy = (R : Repository) (goals : List (List ℕ)) (I : NumSet) →
    ((n : ℕ) → Is I n → n < length R.clauses) →
    (Models I (form R goals) ↔ Solves R goals I)

-- if a log derives the empty entry, no healthy set hits every goal
abbrev pub DerivesNoSolution : Type 0
DerivesNoSolution = (R : Repository) (goals : List (List ℕ)) (log : List (List Literal)) →
    Derives (form R goals) log → HasNoSolution R goals

-- a tree finds something exactly if some healthy set hits every goal, and what it finds is such a
-- set
abbrev pub FindsHealthy : Type 0
FindsHealthy = (R : Repository) (goals : List (List ℕ)) (tree : Tree) →
    InRange (length R.clauses) (form R goals) → IsTree (length R.clauses) (form R goals) [] tree →
    (((I : NumSet) × Healthy R I × HitsAll I goals) →
    (chosen : List Bool) × (found_of tree ≡ Some chosen))
    × ((chosen : List Bool) → found_of tree ≡ Some chosen → Solves R goals (flag chosen))
