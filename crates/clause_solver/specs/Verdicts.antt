-- The verdict that a tree gives within a budget.
use Rattle.std.specs.Prelude.{◌≡◌, ℕ, ◌<◌, ◌≤◌, Bool, true, List, [], length, None, Some, IsSome}
use Rattle.row_book.specs.Repository.{Repository}
use Rattle.search_terms.specs.{Form.{form}, declared.literals.Literal.{Literal}}
use Rattle.search_terms.specs.Tree.{Tree, IsTree, found_of, failed_leaves, log_of}
use Rattle.search_terms.specs.Marks.{true_classes}
use Rattle.clause_solver.specs.{Marking.{set_of_trail}, declared.outcomes.Verdict.{Verdict}}
use Rattle.clause_solver.specs.declared.outcomes.Verdict.TheVariants.{Yes, No, Spent}

-- spent exactly if the failed leaves are more than the budget; else whether the tree finds
-- something
abbrev pub IsVerdictOf : ℕ → Tree → Verdict → Type 0
IsVerdictOf budget tree Yes = IsSome (found_of tree) × (failed_leaves tree ≤ budget)
IsVerdictOf budget tree No = (found_of tree ≡ None) × (failed_leaves tree ≤ budget)
IsVerdictOf budget tree Spent = budget < failed_leaves tree

-- so answers the one tree of the formula of the repository and the goals
abbrev pub IsSearchVerdict : Repository → List (List ℕ) → ℕ → Verdict → Type 0
IsSearchVerdict R goals budget verdict = (tree : Tree)
    × IsTree (length R.clauses) (form R goals) [] tree × IsVerdictOf budget tree verdict

-- if the log is kept, it has the entries
abbrev pub IsKept : Bool → List (List Literal) → List (List Literal) → Type 0
IsKept keeps log entries = keeps ≡ true → log ≡ entries

-- how a walk of the tree ends: with the trail of the first found leaf, or with the log of the tree,
-- if one is kept
abbrev pub Ends : Bool → ℕ → ℕ → Tree → Verdict → List Literal → List (List Literal) → Type 0
Ends keeps classes budget tree Yes trail log = (found_of tree
    ≡ Some (true_classes classes (set_of_trail trail))) × (failed_leaves tree ≤ budget)
Ends keeps classes budget tree No trail log =
    (found_of tree ≡ None) × (failed_leaves tree ≤ budget) × IsKept keeps log (log_of [] tree)
Ends keeps classes budget tree Spent trail log = budget < failed_leaves tree

-- so ends the walk of the one tree of the formula of the repository and the goals
abbrev pub EndsSearch : Bool → Repository → List (List ℕ) → ℕ → Verdict → List Literal →
    List (List Literal) → Type 0
EndsSearch keeps R goals budget verdict trail log =
    (tree : Tree) × IsTree (length R.clauses) (form R goals) [] tree
    × Ends keeps (length R.clauses) budget tree verdict trail log
