-- What is said of the own packages of a status file against an index.
use Rattle.std.specs.Prelude.{⊤, ℕ, ◌+◌, Bool, true, not, List, map, filter}
use Rattle.row_book.specs.{Flags.{flag}, Health.{ClashFirst, UnhitFirst}}
use Rattle.row_book.specs.{Repository.{Repository, Healthy}, Sets.{NumSet}}
use Rattle.clause_solver.specs.declared.outcomes.Verdict.{Verdict}
use Rattle.clause_solver.specs.declared.outcomes.Verdict.TheVariants.{Yes, No, Spent}
use Rattle.relation_fields.specs.declared.packages.Home.{Home}
use Rattle.relation_fields.specs.declared.packages.PackageFacts.{PackageFacts}
use Rattle.repo_model.specs.{Goals.{one_version, CoinstGoals}, declared.goals.Goal.{Goal}}
use Rattle.suite_compare.specs.Answering.{names_none}
use Rattle.status_check.specs.declared.report.HaveLine.{HaveLine}
use Rattle.status_check.specs.declared.report.OwnState.{OwnState}
use Rattle.status_check.specs.declared.report.OwnState.TheVariants as own
use Rattle.status_check.specs.declared.report.SuiteState.{SuiteState}
use Rattle.status_check.specs.declared.report.SuiteState.TheVariants as suite

-- the goal of a package: its name and its version
abbrev pub goal_for : PackageFacts → Goal
goal_for facts = one_version facts.name facts.version

-- the index has a package of the same name and a version that compares as equal
abbrev pub index_has : List PackageFacts → PackageFacts → Bool
index_has index facts = not (names_none index (goal_for facts))

-- the line of an own package, with its version as the file writes it
abbrev pub line_for : List PackageFacts → PackageFacts → HaveLine
line_for index facts =
    record { name = facts.name; version = facts.version; had = index_has index facts }

-- the goals of the packages that the index has, in the order of the file
abbrev pub had_goals : List PackageFacts → List PackageFacts → List Goal
had_goals index packages = map goal_for (filter (index_has index) packages)

-- the set of all packages
abbrev pub all_of : List PackageFacts → NumSet
all_of packages = flag (map (λ facts. true) packages)

-- A set is healthy in the repository. Or this is its least package with a clause that it does not
-- hit. Or it hits every clause of its packages, and these are the first two of them that conflict.
abbrev pub IsStateOf : Repository → NumSet → OwnState → Type 0
IsStateOf R I own.Healthy = Healthy R I
IsStateOf R I (own.Unhit number) = (clause : ℕ) × UnhitFirst R I number clause
IsStateOf R I (own.Clash first second) = ClashFirst R I first second

-- the state by a verdict; a spent search met one failed leaf more than the budget
abbrev pub state_of : ℕ → Verdict → SuiteState
state_of budget Yes = suite.Yes
state_of budget No = suite.No
state_of budget Spent = suite.Spent (budget + 1)

-- judged on the stanzas of the index: after a yes the goals are co-installable, and after a no they
-- are not
abbrev pub HoldsInIndex : Home → List PackageFacts → List Goal → SuiteState → Type 0
HoldsInIndex home stanzas goals suite.Yes = CoinstGoals home stanzas goals
HoldsInIndex home stanzas goals suite.No = ¬ (CoinstGoals home stanzas goals)
HoldsInIndex home stanzas goals (suite.Spent failed) = ⊤
