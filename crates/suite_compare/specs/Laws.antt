-- What the kernel of an index decides for goals, at every clause limit, with hold and without.
use Rattle.std.specs.Prelude.{◌≡◌, ◌↔◌, ℕ, Bool, List, Some}
use Rattle.row_book.specs.{Repository.{Healthy}, Rounds.{kernel}, Sets.{NumSet, HitsAll}}
use Rattle.relation_fields.specs.declared.packages.Home.{Home}
use Rattle.relation_fields.specs.declared.packages.PackageFacts.{PackageFacts}
use Rattle.repo_model.specs.{Goals.{CoinstGoals}, Repository.{suite_repository}}
use Rattle.repo_model.specs.declared.goals.Goal.{Goal}
use Rattle.listed.specs.Lists.{Ascending, has}
use Rattle.search_terms.specs.Tree.{found_of}
use Rattle.suite_compare.specs.Asking.{HasVerdict, asked_tree, images_of, installation, verdict_in}
use Rattle.suite_compare.specs.Answering.{verdict_told, IsAnswerOf, Serves}
use Rattle.suite_compare.specs.declared.answers.Answer.{Answer}

-- some healthy set of classes has a class of each goal
abbrev pub CoinstImages : ℕ → Bool → Home → List PackageFacts → List Goal → Type 0
CoinstImages limit hold home stanzas goals =
    (I : NumSet) × Healthy (kernel limit hold (suite_repository home stanzas)) I
    × HitsAll I (images_of limit hold home stanzas goals)

-- goals are co-installable, judged on the stanzas, exactly if their classes are in the kernel
abbrev pub KernelDecides : Type 0
KernelDecides =
    (limit : ℕ) (hold : Bool) (home : Home) (stanzas : List PackageFacts) (goals : List Goal) →
    (CoinstGoals home stanzas goals ↔ CoinstImages limit hold home stanzas goals)

-- the verdict of the kernel is the one that is judged on the stanzas
abbrev pub VerdictIsJudged : Type 0
VerdictIsJudged = (limit : ℕ) (hold : Bool) (home : Home) (stanzas : List PackageFacts) (budget : ℕ)
    (goals : List Goal) → HasVerdict limit hold home stanzas budget goals
    (verdict_in limit hold home stanzas budget goals)

-- an answer has the verdict of the kernel, and so the one that is judged
abbrev pub AnswerIsVerdict : Type 0
AnswerIsVerdict = (limit : ℕ) (hold : Bool) (home : Home) (stanzas : List PackageFacts)
    (goals : List Goal) (budget : ℕ) (answer : Answer) →
    IsAnswerOf limit hold home stanzas goals budget answer →
    verdict_told answer ≡ verdict_in limit hold home stanzas budget goals

-- what is installed for classes that the tree of goals finds is in file order, healthy, judged on
-- the stanzas, and has a package for each goal
abbrev pub InstallationsServe : Type 0
InstallationsServe =
    (limit : ℕ) (hold : Bool) (home : Home) (stanzas : List PackageFacts) (goals : List Goal)
    (chosen : List Bool) → found_of (asked_tree limit hold home stanzas goals) ≡ Some chosen →
    Ascending (installation limit hold home stanzas goals chosen)
    × Serves home stanzas goals (has (installation limit hold home stanzas goals chosen))
