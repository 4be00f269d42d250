-- What is asked of a suite by goals, and what its kernel at a clause limit, with hold or without,
-- answers.
use Rattle.std.specs.Prelude.{ℕ, ◌<◌, ◌≤◌, Bool, nat_lt, if◌then◌else◌, List, map, filter, length}
use Rattle.std.specs.Prelude.{is_some}
use Rattle.row_book.specs.{Flags.{flag}, Flattening.{packages}, Repository.{Repository}}
use Rattle.row_book.specs.Rounds.{kernel, kernel_image, kernel_steps}
use Rattle.listed.specs.Lists.{has}
use Rattle.relation_fields.specs.declared.packages.Home.{Home}
use Rattle.relation_fields.specs.declared.packages.PackageFacts.{PackageFacts}
use Rattle.repo_model.specs.Goals.{packages_named, CoinstGoals}
use Rattle.repo_model.specs.{Repository.{packages_of, suite_repository}, declared.goals.Goal.{Goal}}
use Rattle.search_terms.specs.{Form.{form}, SearchTree.{search_tree}}
use Rattle.search_terms.specs.Tree.{Tree, failed_leaves, found_of}
use Rattle.clause_solver.specs.declared.outcomes.Verdict.{Verdict}
use Rattle.clause_solver.specs.declared.outcomes.Verdict.TheVariants.{Yes, No, Spent}
use Rattle.install_lift.specs.{Lifting.{lift_of}, Trimming.{trim_of}}

-- the classes of some packages, ascending
abbrev pub goal_classes : ℕ → Bool → Repository → List ℕ → List ℕ
goal_classes limit hold R chosen =
    filter (kernel_image limit hold R (has chosen)) (packages (kernel limit hold R))

-- the classes of the packages that a goal names
abbrev pub image_of : ℕ → Bool → Home → List PackageFacts → Goal → List ℕ
image_of limit hold home stanzas goal =
    goal_classes limit hold (suite_repository home stanzas) (packages_named stanzas goal)

-- for each goal its classes
abbrev pub images_of : ℕ → Bool → Home → List PackageFacts → List Goal → List (List ℕ)
images_of limit hold home stanzas goals = map (image_of limit hold home stanzas) goals

-- the search tree of a kernel for these lists of classes
unfoldable pub tree_of : Repository → List (List ℕ) → Tree
tree_of K images = search_tree (length K.clauses) (form K images)

-- the search tree of the goals' classes in the kernel of the index
abbrev pub asked_tree : ℕ → Bool → Home → List PackageFacts → List Goal → Tree
asked_tree limit hold home stanzas goals = tree_of
    (kernel limit hold (suite_repository home stanzas)) (images_of limit hold home stanzas goals)

-- what a tree gives within a budget of failed leaves: spent if it has more, and else whether it
-- finds something
abbrev pub verdict_of : ℕ → Tree → Verdict
verdict_of budget tree = if nat_lt budget (failed_leaves tree) then Spent
    else (if is_some (found_of tree) then Yes else No)

abbrev pub verdict_in : ℕ → Bool → Home → List PackageFacts → ℕ → List Goal → Verdict
verdict_in limit hold home stanzas budget goals =
    verdict_of budget (asked_tree limit hold home stanzas goals)

-- the verdict on goals, judged on the stanzas: if the failed leaves are within the budget, whether
-- the goals are co-installable
abbrev pub HasVerdict : ℕ → Bool → Home → List PackageFacts → ℕ → List Goal → Verdict → Type 0
HasVerdict limit hold home stanzas budget goals Yes =
    (failed_leaves (asked_tree limit hold home stanzas goals) ≤ budget)
    × CoinstGoals home stanzas goals
HasVerdict limit hold home stanzas budget goals No =
    (failed_leaves (asked_tree limit hold home stanzas goals) ≤ budget)
    × (¬ (CoinstGoals home stanzas goals))
HasVerdict limit hold home stanzas budget goals Spent =
    budget < failed_leaves (asked_tree limit hold home stanzas goals)

-- the packages that a goal names, for each goal
abbrev pub wanted_by : List PackageFacts → List Goal → List (List ℕ)
wanted_by stanzas goals = map (packages_named stanzas) goals

-- The packages that are installed for goals if these classes of the kernel are found. The classes
-- are taken back through the steps of the kernel, and what no need asks for is left out.
abbrev pub installed : ℕ → Bool → Home → List PackageFacts → List Goal → List Bool → ℕ → Bool
installed limit hold home stanzas goals chosen =
    trim_of (suite_repository home stanzas) (wanted_by stanzas goals)
    (lift_of (kernel_steps limit hold (suite_repository home stanzas)) (flag chosen))

-- and their numbers, ascending
unfoldable pub installation : ℕ → Bool → Home → List PackageFacts → List Goal → List Bool → List ℕ
installation limit hold home stanzas goals chosen =
    filter (installed limit hold home stanzas goals chosen) (packages_of stanzas)
