-- Why goals cannot be installed together.
use Rattle.std.specs.{Prelude.{⊤, ℕ, Bool, ◌+◌, List, Option}, Option.{option_map}}
use Rattle.clause_solver.specs.declared.outcomes.Verdict.{Verdict}
use Rattle.clause_solver.specs.declared.outcomes.Verdict.TheVariants as verdict
use Rattle.relation_fields.specs.declared.packages.Home.{Home}
use Rattle.relation_fields.specs.declared.packages.PackageFacts.{PackageFacts}
use Rattle.repo_model.specs.{Repository.{suite_repository}, declared.goals.Goal.{Goal}}
use Rattle.suite_compare.specs.Asking.{verdict_in, wanted_by}
use Rattle.explain_core.specs.Core.{goal_core, marked_goals, marks_of}
use Rattle.explain_core.specs.{Reasons.{clashes_of, reasons_of}, declared.explanation.Clash.{Clash}}
use Rattle.explain_core.specs.declared.explanation.Mark.{Mark}
use Rattle.explain_core.specs.declared.explanation.Explanation.{Explanation}
use Rattle.explain_core.specs.declared.explanation.Explanation.TheVariants.{Yes, Spent, Core}
use Rattle.explain_core.specs.declared.explanation.ExplainError.{ExplainError}
use Rattle.explain_core.specs.declared.explanation.ExplainError.TheVariants.{Unknown, Memory}

-- the conflicts that matter for the marked goals, each goal the set of the packages that it names
abbrev pub clashes_for : Home → List PackageFacts → ℕ → List Goal → List Mark → Option (List Clash)
clashes_for home stanzas budget goals marks =
    option_map clashes_of (reasons_of (suite_repository home stanzas) budget
    (wanted_by stanzas (marked_goals goals marks)))

-- the core of the goals, and the conflicts that matter for it
abbrev pub core_explained : Home → List PackageFacts → ℕ → List Goal → List Mark → Explanation
core_explained home stanzas budget goals marks =
    Core marks (clashes_for home stanzas budget goals marks)

-- by the verdict on all goals
abbrev pub explained_by : ℕ → Bool → Home → List PackageFacts → ℕ → List Goal →
    Verdict → Explanation
explained_by limit hold home stanzas budget goals verdict.Yes = Yes
explained_by limit hold home stanzas budget goals verdict.Spent = Spent (budget + 1)
explained_by limit hold home stanzas budget goals verdict.No = core_explained home stanzas budget
    goals (marks_of (goal_core limit hold home stanzas budget goals))

abbrev pub explanation_of : ℕ → Bool → Home → List PackageFacts → ℕ → List Goal → Explanation
explanation_of limit hold home stanzas budget goals = explained_by limit hold home stanzas budget
    goals (verdict_in limit hold home stanzas budget goals)

-- the fact, if a goal is unknown, and nothing for want of memory
abbrev pub OnUnknownGoal : (ℕ → Type 0) → ExplainError → Type 0
OnUnknownGoal P (Unknown goal) = P goal
OnUnknownGoal P Memory = ⊤
