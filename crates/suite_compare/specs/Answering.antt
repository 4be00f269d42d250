-- The answer on goals: what their search tree gives, with the certificate of a yes or a no, at a
-- clause limit, with hold or without.
use Rattle.std.specs.Prelude.{◌≡◌, ⊤, ℕ, ◌+◌, ◌<◌, ◌≤◌, Bool, ◌==◌, if◌then◌else◌, List, [], ◌∷◌}
use Rattle.std.specs.{Prelude.{filter, length, Option, Some, None}, List.{range_with_len}}
use Rattle.row_book.specs.{Flags.{flag}, Rounds.{kernel}, Sets.{NumSet}}
use Rattle.listed.specs.Lists.{In, has}
use Rattle.relation_fields.specs.declared.packages.Home.{Home}
use Rattle.relation_fields.specs.declared.packages.PackageFacts.{PackageFacts}
use Rattle.repo_model.specs.Goals.{packages_named, CoinstGoals, HasOneFor}
use Rattle.repo_model.specs.{Repository.{suite_repository}, Stanzas.{HealthyStanzas}}
use Rattle.repo_model.specs.declared.goals.Goal.{Goal}
use Rattle.search_terms.specs.{Closure.{InRange}, Derives.{Derives}, Form.{form}}
use Rattle.search_terms.specs.Tree.{failed_leaves, found_of, log_of}
use Rattle.clause_solver.specs.declared.outcomes.Verdict.{Verdict}
use Rattle.clause_solver.specs.declared.outcomes.Verdict.TheVariants as verdict
use Rattle.suite_compare.specs.Asking.{asked_tree, images_of, installation}
use Rattle.suite_compare.specs.declared.answers.Answer.{Answer}
use Rattle.suite_compare.specs.declared.answers.Answer.TheVariants.{Yes, No, Spent}
use Rattle.suite_compare.specs.declared.answers.DecideError.{DecideError}
use Rattle.suite_compare.specs.declared.answers.DecideError.TheVariants.{Unknown, Memory}

-- the goal names no package
abbrev pub names_none : List PackageFacts → Goal → Bool
names_none stanzas goal = length (packages_named stanzas goal) == 0

-- the number of the first goal that names no package, if they are numbered from n
abbrev pub unknown_from : ℕ → List PackageFacts → List Goal → Option ℕ
unknown_from n stanzas [] = None
unknown_from n stanzas (goal ∷ goals) =
    if names_none stanzas goal then Some n else unknown_from (n + 1) stanzas goals

-- and if they are numbered from 1
abbrev pub unknown_goal : List PackageFacts → List Goal → Option ℕ
unknown_goal stanzas goals = unknown_from 1 stanzas goals

-- the fact, if a goal is unknown, and nothing for want of memory
abbrev pub OnUnknown : (ℕ → Type 0) → DecideError → Type 0
OnUnknown P (Unknown goal) = P goal
OnUnknown P Memory = ⊤

-- the numbers of the flags that are up, ascending
abbrev pub true_numbers : List Bool → List ℕ
true_numbers flags = filter (flag flags) (range_with_len 0 (length flags))

-- a yes: the tree finds these classes within the budget, and this is their installation
pub record IsYes (limit : ℕ) (hold : Bool) (home : Home) (stanzas : List PackageFacts)
    (goals : List Goal) (budget : ℕ) (install classes : List ℕ) : Type 0 where
  pub chosen : List Bool
  pub found : found_of (asked_tree limit hold home stanzas goals) ≡ Some chosen
  pub within : failed_leaves (asked_tree limit hold home stanzas goals) ≤ budget
  pub true_classes : classes ≡ true_numbers chosen
  pub installed : install ≡ installation limit hold home stanzas goals chosen

-- a yes; or the tree finds nothing within the budget, and this is its log; or it has more failed
-- leaves
abbrev pub IsAnswerOf : ℕ → Bool → Home → List PackageFacts → List Goal → ℕ → Answer → Type 0
IsAnswerOf limit hold home stanzas goals budget (Yes install classes) =
    IsYes limit hold home stanzas goals budget install classes
IsAnswerOf limit hold home stanzas goals budget (No log) =
    (found_of (asked_tree limit hold home stanzas goals) ≡ None)
    × (failed_leaves (asked_tree limit hold home stanzas goals) ≤ budget)
    × (log.entries ≡ log_of [] (asked_tree limit hold home stanzas goals))
IsAnswerOf limit hold home stanzas goals budget (Spent failed) =
    (budget < failed_leaves (asked_tree limit hold home stanzas goals)) × (failed ≡ budget + 1)

-- what an answer says of the verdict
abbrev pub verdict_told : Answer → Verdict
verdict_told (Yes install classes) = verdict.Yes
verdict_told (No log) = verdict.No
verdict_told (Spent failed) = verdict.Spent

-- an installation is a healthy set of stanzas that has a package for each goal
pub record Serves (home : Home) (stanzas : List PackageFacts) (goals : List Goal)
    (I : NumSet) : Type 0 where
  pub healthy : HealthyStanzas home stanzas I
  pub each : (goal : Goal) → In goal goals → HasOneFor stanzas I goal

-- What an answer shows by itself. A yes has such an installation. The log of a no is of classes of
-- the kernel, and the goals are not co-installable. It derives the empty entry from the kernel and
-- the goals' classes, so that the checker of logs accepts it.
abbrev pub HasCertificate : ℕ → Bool → Home → List PackageFacts → List Goal → Answer → Type 0
HasCertificate limit hold home stanzas goals (Yes install classes) =
    Serves home stanzas goals (has install)
HasCertificate limit hold home stanzas goals (No log) =
    InRange (length (kernel limit hold (suite_repository home stanzas)).clauses) log.entries
    × Derives (form (kernel limit hold (suite_repository home stanzas))
    (images_of limit hold home stanzas goals)) log.entries × (¬ (CoinstGoals home stanzas goals))
HasCertificate limit hold home stanzas goals (Spent failed) = Unit {0}
