-- Which conflicts are the reason that goals cannot be installed together. Each goal is a set of
-- packages.
use Rattle.std.specs.Prelude.{ℕ, Bool, true, false, List, nat_lt, if◌then◌else◌, Option, Some, None}
use Rattle.std.specs.Prelude.{map}
use Rattle.clause_solver.specs.declared.outcomes.Verdict.{Verdict}
use Rattle.clause_solver.specs.declared.outcomes.Verdict.TheVariants.{Yes, No, Spent}
use Rattle.row_book.specs.{Repository.{Repository}, declared.pair.Pair.{Pair}}
use Rattle.search_terms.specs.Tree.{Tree, failed_leaves}
use Rattle.suite_compare.specs.Asking.{tree_of, verdict_of}
use Rattle.explain_core.specs.{Deletion.{KeptItem, kept_of}, Only.{conflicts_within, only, pair}}
use Rattle.explain_core.specs.{Reach.{reach_of}, declared.explanation.Clash.{Clash}}

-- the search tree of the goals over packages, if only these pairs conflict
abbrev pub tree_over : Repository → List (List ℕ) → List Pair → Tree
tree_over R goals pairs = tree_of (only R pairs) goals

abbrev pub verdict_over : Repository → ℕ → List (List ℕ) → List Pair → Verdict
verdict_over R budget goals pairs = verdict_of budget (tree_over R goals pairs)

abbrev pub is_spent_verdict : Verdict → Bool
is_spent_verdict Spent = true
is_spent_verdict Yes = false
is_spent_verdict No = false

-- None, if the search with all of the pairs has more failed leaves than the budget. Else one pair
-- after another is left out, as long as the search with the others finds nothing.
abbrev pub reasons_among : Repository → ℕ → List (List ℕ) → List Pair →
    Option (List (KeptItem Pair))
reasons_among R budget goals pairs =
    if nat_lt budget (failed_leaves (tree_over R goals pairs)) then None
    else Some (kept_of (verdict_over R budget goals) pairs)

-- the conflicts within reach of the goals
abbrev pub conflicts_reached : Repository → List (List ℕ) → List Pair
conflicts_reached R goals = conflicts_within R (reach_of R goals)

abbrev pub reasons_of : Repository → ℕ → List (List ℕ) → Option (List (KeptItem Pair))
reasons_of R budget goals = reasons_among R budget goals (conflicts_reached R goals)

-- a reason as an explanation has it
abbrev pub clash : KeptItem Pair → Clash
clash k = record { first = k.item.low; second = k.item.high; unsettled = k.unsettled }

abbrev pub clashes_of : List (KeptItem Pair) → List Clash
clashes_of reasons = map clash reasons

-- the pairs of these conflicts
abbrev pub clash_pairs : List Clash → List Pair
clash_pairs clashes = map (λ c. pair c.first c.second) clashes
