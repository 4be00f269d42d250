-- The command that asks whether one package for each goal can be installed together.
use Rattle.std.specs.Prelude.{ℕ, ◌-◌, nat_lt, if◌then◌else◌, List, [], slice_index_or, Option, Some}
use Rattle.std.specs.Prelude.{None, Bool}
use Rattle.repo_model.specs.{Goals.{any_version}, declared.goals.Goal.{Goal}}
use Rattle.search_terms.specs.Tree.{Tree, failed_leaves, found_of, log_of}
use Rattle.suite_compare.specs.{Answering.{unknown_goal}, Asking.{asked_tree, installation}}
use Rattle.coinst_run.specs.declared.answer.Cause.TheVariants.{UnknownGoal}
use Rattle.coinst_run.specs.declared.answer.ReportVerdict.TheVariants.{Done, Negative, Undecided}
use Rattle.coinst_run.specs.{Answer.{Answer, reported, refused}, Course.{Course, answers}}
use Rattle.coinst_run.specs.{Index.{Index}, IndexKernel.{ClassedKernel}, Kernel.{reads_kernel}}
use Rattle.coinst_run.specs.QueryText.{no_text, undecided_text, unknown_line, yes_text}

-- the goal of a number, counted from 1
abbrev pub goal_of_number : List Goal → ℕ → Goal
goal_of_number goals number = slice_index_or goals (number - 1) (any_version [])

-- the goal of this number is the first that names no package
abbrev pub unknown_answer : List Goal → ℕ → Answer
unknown_answer goals number =
    refused UnknownGoal (unknown_line number (goal_of_number goals number))

-- yes, in these words, if the tree finds classes, and otherwise no and the log of the tree
abbrev pub by_found : (List Bool → List ℕ) → Tree → Option (List Bool) → Answer
by_found shown tree (Some chosen) = reported Done (shown chosen)
by_found shown tree None = reported Negative (no_text (log_of [] tree))

-- undecided if the tree has more failed leaves than the budget
abbrev pub by_tree : (List Bool → List ℕ) → ℕ → Tree → Answer
by_tree shown budget tree = if nat_lt budget (failed_leaves tree)
    then reported Undecided (undecided_text budget) else by_found shown tree (found_of tree)

-- yes, and what is installed if these classes are found
abbrev pub installed_text : ℕ → Bool → Index → List Goal → List Bool → List ℕ
installed_text limit hold index goals chosen =
    yes_text index.packages (installation limit hold index.home index.packages goals chosen)

-- goals by the first that names no package, if there is one
abbrev pub by_unknown : ℕ → Bool → Index → List Goal → ℕ → Option ℕ → Answer
by_unknown limit hold index goals budget (Some number) = unknown_answer goals number
by_unknown limit hold index goals budget None = by_tree (installed_text limit hold index goals)
    budget (asked_tree limit hold index.home index.packages goals)

-- what is answered to goals, at a clause limit, with hold or without
abbrev pub goals_answer : List Goal → ℕ → ℕ → Bool → Index → Answer
goals_answer goals budget limit hold index =
    by_unknown limit hold index goals budget (unknown_goal index.packages goals)

abbrev pub query_answer : List Goal → ℕ → ℕ → Bool → Index → ClassedKernel → Course
query_answer goals budget limit hold index kernel =
    answers (goals_answer goals budget limit hold index)

abbrev pub query_course : List ℕ → List Goal → ℕ → ℕ → Bool → Course
query_course path goals budget limit hold =
    reads_kernel path limit hold (query_answer goals budget limit hold)
