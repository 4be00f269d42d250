-- What the report of an explanation means for the index that was asked, judged on its stanzas.
use Rattle.std.specs.Prelude.{◌≡◌, ℕ, Bool, List, length, Option, Some, None, IfSome, [], ◌∷◌, ◌≤◌}
use Rattle.byte_flow.specs.History.{OpenedFile}
use Rattle.explain_core.specs.{Core.{marked_goals}, Explaining.{explanation_of}, Meaning.{IsCoreOf}}
use Rattle.explain_core.specs.declared.explanation.Clash.{Clash}
use Rattle.explain_core.specs.declared.explanation.Explanation.TheVariants.{Core}
use Rattle.explain_core.specs.declared.explanation.Mark.{Mark}
use Rattle.explain_core.specs.OnStanzas.{AreClashesOf, AreEnough}
use Rattle.repo_model.specs.{FirstFault.{first_fault}, Goals.{CoinstGoals, packages_named}}
use Rattle.repo_model.specs.declared.goals.Goal.{Goal}
use Rattle.listed.specs.Lists.{In}
use Rattle.search_terms.specs.Tree.{failed_leaves}
use Rattle.suite_compare.specs.{Asking.{asked_tree}, Refusals.{home_in, packages_in}}
use Rattle.coinst_run.specs.declared.answer.ReportVerdict.{ReportVerdict}
use Rattle.coinst_run.specs.declared.answer.ReportVerdict.TheVariants.{Done, Negative, Undecided}
use Rattle.coinst_run.specs.{Answer.{reported}, Explain.{explain_course}}
use Rattle.coinst_run.specs.{ExplainText.{core_text, yes_line}, Outcome.{GivesAnswer}}
use Rattle.coinst_run.specs.QueryMeaning.{UndecidedMeans}

-- The goals are co-installable.
pub record ExplainedYes (text : List ℕ) (goals : List Goal) (budget limit : ℕ) (hold : Bool)
    (printed : List ℕ) : Type 0 where
  pub within : failed_leaves (asked_tree limit hold (home_in text) (packages_in text) goals)
      ≤ budget
  pub reads : printed ≡ yes_line
  pub possible : CoinstGoals (home_in text) (packages_in text) goals

-- The printed goals and conflicts are exactly those that are left when one after another is left
-- out, and no other conflicts are printed so. The printed goals are not co-installable, and without
-- any one of them that is not open they are. The printed conflicts, unless they are open as a
-- whole, are enough for these goals. None of them that is not open can be spared.
pub record ExplainedCore (text : List ℕ) (goals : List Goal) (budget limit : ℕ) (hold : Bool)
    (printed : List ℕ) : Type 0 where
  pub within : failed_leaves (asked_tree limit hold (home_in text) (packages_in text) goals)
      ≤ budget
  pub marks : List Mark
  pub clashes : Option (List Clash)
  pub is : explanation_of limit hold (home_in text) (packages_in text) budget goals
      ≡ Core marks clashes
  pub reads : printed ≡ core_text (packages_in text) goals marks clashes
  pub once : (other : Option (List Clash)) →
      IfSome other (AreClashesOf (length (packages_in text))) →
      printed ≡ core_text (packages_in text) goals marks other → other ≡ clashes
  pub core : IsCoreOf (home_in text) (packages_in text) goals marks
  pub reasons : IfSome clashes
      (AreEnough (home_in text) (packages_in text) (marked_goals goals marks))

abbrev pub MeansExplained : List ℕ → List Goal → ℕ → ℕ → Bool → ReportVerdict → List ℕ → Type 0
MeansExplained text goals budget limit hold Done printed =
    ExplainedYes text goals budget limit hold printed
MeansExplained text goals budget limit hold Negative printed =
    ExplainedCore text goals budget limit hold printed
MeansExplained text goals budget limit hold Undecided printed =
    UndecidedMeans text goals budget limit hold printed

-- The text is an index without a fault, each goal names a package of it, and the printed bytes mean
-- what their verdict says.
pub record ExplainMeans (text : List ℕ) (goals : List Goal) (budget limit : ℕ) (hold : Bool)
    (verdict : ReportVerdict) (printed : List ℕ) : Type 0 where
  pub accepted : first_fault text ≡ None
  pub known : (goal : Goal) → In goal goals →
      (n : ℕ) × In n (packages_named (packages_in text) goal)
  pub means : MeansExplained text goals budget limit hold verdict printed

-- what is reported of a file means this for its text
abbrev pub ExplainIsMeant : Type 0
ExplainIsMeant = (path : List ℕ) (goals : List Goal) (budget limit : ℕ) (hold : Bool)
    (readings : List OpenedFile) (verdict : ReportVerdict) (printed : List ℕ) →
    GivesAnswer (explain_course path goals budget limit hold) readings (reported verdict printed) →
    (text : List ℕ) × (readings ≡ (path, text) ∷ [])
    × ExplainMeans text goals budget limit hold verdict printed
