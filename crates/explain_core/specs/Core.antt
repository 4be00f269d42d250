-- The core of goals that cannot be installed together: those of them that matter for it.
use Rattle.std.specs.Prelude.{ℕ, Bool, ◌-◌, List, [], length, map, slice_index_or}
use Rattle.std.specs.List.{range_with_len}
use Rattle.clause_solver.specs.declared.outcomes.Verdict.{Verdict}
use Rattle.relation_fields.specs.declared.packages.Home.{Home}
use Rattle.relation_fields.specs.declared.packages.PackageFacts.{PackageFacts}
use Rattle.repo_model.specs.{Goals.{any_version}, declared.goals.Goal.{Goal}}
use Rattle.suite_compare.specs.Asking.{verdict_in}
use Rattle.explain_core.specs.{Deletion.{KeptItem, kept_of}, declared.explanation.Mark.{Mark}}

-- the goal of a number, if they are counted from 1
abbrev pub goal_numbered : List Goal → ℕ → Goal
goal_numbered goals n = slice_index_or goals (n - 1) (any_version [])

abbrev pub goals_numbered : List Goal → List ℕ → List Goal
goals_numbered goals numbers = map (goal_numbered goals) numbers

-- the verdict on the goals of these numbers
abbrev pub verdict_on : ℕ → Bool → Home → List PackageFacts → ℕ → List Goal → List ℕ → Verdict
verdict_on limit hold home stanzas budget goals numbers =
    verdict_in limit hold home stanzas budget (goals_numbered goals numbers)

-- the core: one goal after another is left out, as long as the verdict on the others is no
abbrev pub goal_core : ℕ → Bool → Home → List PackageFacts → ℕ → List Goal → List (KeptItem ℕ)
goal_core limit hold home stanzas budget goals =
    kept_of (verdict_on limit hold home stanzas budget goals) (range_with_len 1 (length goals))

-- an item of the core as a mark
abbrev pub mark : KeptItem ℕ → Mark
mark k = record { goal = k.item; unsettled = k.unsettled }

abbrev pub marks_of : List (KeptItem ℕ) → List Mark
marks_of core = map mark core

-- the goals that are marked
abbrev pub marked_goals : List Goal → List Mark → List Goal
marked_goals goals marks = goals_numbered goals (map (λ m. m.goal) marks)
