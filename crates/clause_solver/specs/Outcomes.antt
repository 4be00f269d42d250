-- The outcome that a tree gives within a budget, and what an outcome says by itself.
use Rattle.std.specs.Prelude.{◌≡◌, ℕ, ◌+◌, ◌<◌, ◌≤◌, List, [], length, Some, None}
use Rattle.row_book.specs.{Repository.{Repository}, Flags.{flag}}
use Rattle.search_terms.specs.{Closure.{InRange}, Derives.{Derives}, Form.{form}}
use Rattle.search_terms.specs.Laws.{Solves, HasNoSolution}
use Rattle.search_terms.specs.Tree.{Tree, IsTree, found_of, failed_leaves, log_of}
use Rattle.clause_solver.specs.declared.outcomes.Outcome.{Outcome}
use Rattle.clause_solver.specs.declared.outcomes.Outcome.TheVariants.{Found, Refuted, Spent}

-- the budget of a search, in failed leaves: from one to a million
abbrev pub IsBudget : ℕ → Type 0
IsBudget budget = (0 < budget) × (budget ≤ 1000000)

-- spent exactly if the failed leaves are more than the budget; else what the tree finds, or its log
abbrev pub IsOutcomeOf : ℕ → Tree → Outcome → Type 0
IsOutcomeOf budget tree (Found chosen) =
    (found_of tree ≡ Some chosen) × (failed_leaves tree ≤ budget)
IsOutcomeOf budget tree (Refuted log) =
    (found_of tree ≡ None) × (failed_leaves tree ≤ budget) × (log.entries ≡ log_of [] tree)
IsOutcomeOf budget tree (Spent failed) = (budget < failed_leaves tree) × (failed ≡ budget + 1)

-- so answers the one tree of the formula of the repository and the goals
abbrev pub IsSearchOutcome : Repository → List (List ℕ) → ℕ → Outcome → Type 0
IsSearchOutcome R goals budget outcome = (tree : Tree)
    × IsTree (length R.clauses) (form R goals) [] tree × IsOutcomeOf budget tree outcome

-- What is found is a flag for each class: a healthy set that hits every goal. A log is of classes
-- and derives the empty entry, and no healthy set hits every goal.
abbrev pub IsCertified : Repository → List (List ℕ) → Outcome → Type 0
IsCertified R goals (Found chosen) =
    (length chosen ≡ length R.clauses) × Solves R goals (flag chosen)
IsCertified R goals (Refuted log) = InRange (length R.clauses) log.entries
    × Derives (form R goals) log.entries × HasNoSolution R goals
IsCertified R goals (Spent failed) = Unit {0}

-- the budget was not spent
abbrev pub IsDecided : Outcome → Type 0
IsDecided (Found chosen) = Unit {0}
IsDecided (Refuted log) = Unit {0}
IsDecided (Spent failed) = ⊥
