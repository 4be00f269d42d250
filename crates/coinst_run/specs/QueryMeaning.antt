-- What the report of a query means for the index that was asked.
use Rattle.std.specs.Prelude.{◌≡◌, ℕ, ◌<◌, ◌≤◌, Bool, List, length, Some, None, [], ◌∷◌}
use Rattle.byte_flow.specs.History.{OpenedFile}
use Rattle.repo_model.specs.{FirstFault.{first_fault}, Goals.{CoinstGoals, packages_named}}
use Rattle.repo_model.specs.{Repository.{suite_repository}, declared.goals.Goal.{Goal}}
use Rattle.listed.specs.Lists.{Ascending, In, has}
use Rattle.row_book.specs.Rounds.{kernel}
use Rattle.search_terms.specs.{declared.literals.Literal.{Literal}, Derives.{Derives}, Form.{form}}
use Rattle.search_terms.specs.Tree.{failed_leaves}
use Rattle.suite_compare.specs.{Answering.{Serves}, Asking.{asked_tree, images_of}}
use Rattle.suite_compare.specs.Refusals.{home_in, packages_in}
use Rattle.coinst_run.specs.declared.answer.ReportVerdict.{ReportVerdict}
use Rattle.coinst_run.specs.declared.answer.ReportVerdict.TheVariants.{Done, Negative, Undecided}
use Rattle.coinst_run.specs.{Answer.{reported}, Outcome.{GivesAnswer}, Query.{query_course}}
use Rattle.coinst_run.specs.QueryText.{no_text, undecided_text, yes_text}

-- The printed packages, which no other ones are printed as, are in file order, and are a healthy
-- set of stanzas that has a package for each goal.
pub record YesMeans (text : List ℕ) (goals : List Goal) (budget limit : ℕ) (hold : Bool)
    (printed : List ℕ) : Type 0 where
  pub within : failed_leaves (asked_tree limit hold (home_in text) (packages_in text) goals)
      ≤ budget
  pub numbers : List ℕ
  pub reads : printed ≡ yes_text (packages_in text) numbers
  pub once : (other : List ℕ) → ((n : ℕ) → In n other → n < length (packages_in text)) →
      printed ≡ yes_text (packages_in text) other → other ≡ numbers
  pub order : Ascending numbers
  pub serves : Serves (home_in text) (packages_in text) goals (has numbers)

-- The goals are not co-installable, judged on the stanzas, and the printed log shows it. It derives
-- the empty entry over the formula of the kernel, at this clause limit and with hold or without,
-- and the classes of the goals.
pub record NoMeans (text : List ℕ) (goals : List Goal) (budget limit : ℕ) (hold : Bool)
    (printed : List ℕ) : Type 0 where
  pub within : failed_leaves (asked_tree limit hold (home_in text) (packages_in text) goals)
      ≤ budget
  pub refuted : ¬ (CoinstGoals (home_in text) (packages_in text) goals)
  pub log : List (List Literal)
  pub reads : printed ≡ no_text log
  pub derives : Derives
      (form (kernel limit hold (suite_repository (home_in text) (packages_in text)))
      (images_of limit hold (home_in text) (packages_in text) goals)) log

-- The search tree has more failed leaves than the budget that is printed.
pub record UndecidedMeans (text : List ℕ) (goals : List Goal) (budget limit : ℕ) (hold : Bool)
    (printed : List ℕ) : Type 0 where
  pub reads : printed ≡ undecided_text budget
  pub spent : budget < failed_leaves (asked_tree limit hold (home_in text) (packages_in text) goals)

abbrev pub MeansVerdict : List ℕ → List Goal → ℕ → ℕ → Bool → ReportVerdict → List ℕ → Type 0
MeansVerdict text goals budget limit hold Done printed =
    YesMeans text goals budget limit hold printed
MeansVerdict text goals budget limit hold Negative printed =
    NoMeans text goals budget limit hold printed
MeansVerdict text goals budget limit hold Undecided printed =
    UndecidedMeans text goals budget limit hold printed

-- The text is an index without a fault, each goal names a package of it, and the printed bytes mean
-- what their verdict says.
pub record QueryMeans (text : List ℕ) (goals : List Goal) (budget limit : ℕ) (hold : Bool)
    (verdict : ReportVerdict) (printed : List ℕ) : Type 0 where
  pub accepted : first_fault text ≡ None
  pub known : (goal : Goal) → In goal goals →
      (n : ℕ) × In n (packages_named (packages_in text) goal)
  pub means : MeansVerdict text goals budget limit hold verdict printed

-- what is reported of a file means this for its text
abbrev pub QueryIsMeant : Type 0
QueryIsMeant = (path : List ℕ) (goals : List Goal) (budget limit : ℕ) (hold : Bool)
    (readings : List OpenedFile) (verdict : ReportVerdict) (printed : List ℕ) →
    GivesAnswer (query_course path goals budget limit hold) readings (reported verdict printed) →
    (text : List ℕ) × (readings ≡ (path, text) ∷ [])
    × QueryMeans text goals budget limit hold verdict printed
