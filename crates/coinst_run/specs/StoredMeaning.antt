-- What the report of a query of a stored kernel means for the kernel that its text stands for.
use Rattle.std.specs.Prelude.{◌≡◌, ℕ, ◌<◌, true, List, length, Some, [], ◌∷◌, ◌≤◌}
use Rattle.byte_flow.specs.History.{OpenedFile}
use Rattle.kernel_text.specs.Images.{is_named_by}
use Rattle.kernel_text.specs.KernelReads.{HasOneReading, KernelContent, KernelReads}
use Rattle.kernel_text.specs.declared.member.Member.{Member}
use Rattle.kernel_text.specs.Serving.{CoinstStored, ServesStored, images_in}
use Rattle.repo_model.specs.declared.goals.Goal.{Goal}
use Rattle.listed.specs.Lists.{Ascending, In, has}
use Rattle.search_terms.specs.{declared.literals.Literal.{Literal}, Derives.{Derives}, Form.{form}}
use Rattle.search_terms.specs.Tree.{failed_leaves}
use Rattle.suite_compare.specs.Asking.{tree_of}
use Rattle.coinst_run.specs.declared.answer.ReportVerdict.{ReportVerdict}
use Rattle.coinst_run.specs.declared.answer.ReportVerdict.TheVariants.{Done, Negative, Undecided}
use Rattle.coinst_run.specs.{Answer.{reported}, Outcome.{GivesAnswer}}
use Rattle.coinst_run.specs.QueryText.{no_text, undecided_text}
use Rattle.coinst_run.specs.StoredQuery.{listed_classes, stored_query_course}

-- The goals are co-installable: the printed classes, which no other ones are printed as, are
-- ascending and serve them.
pub record StoredYes (kernel : KernelContent) (goals : List Goal) (budget : ℕ)
    (printed : List ℕ) : Type 0 where
  pub within : failed_leaves (tree_of kernel.repository (images_in kernel goals)) ≤ budget
  pub classes : List ℕ
  pub reads : printed ≡ listed_classes classes
  pub once : (other : List ℕ) → ((n : ℕ) → In n other → n < length kernel.repository.clauses) →
      printed ≡ listed_classes other → other ≡ classes
  pub order : Ascending classes
  pub serves : ServesStored kernel goals (has classes)

-- The goals are not co-installable, and the printed log shows it: it derives the empty entry over
-- the formula of the kernel and the classes that the goals name.
pub record StoredNo (kernel : KernelContent) (goals : List Goal) (budget : ℕ)
    (printed : List ℕ) : Type 0 where
  pub within : failed_leaves (tree_of kernel.repository (images_in kernel goals)) ≤ budget
  pub refuted : ¬ (CoinstStored kernel goals)
  pub log : List (List Literal)
  pub reads : printed ≡ no_text log
  pub derives : Derives (form kernel.repository (images_in kernel goals)) log

-- The search tree has more failed leaves than the budget that is printed.
pub record StoredUndecided (kernel : KernelContent) (goals : List Goal) (budget : ℕ)
    (printed : List ℕ) : Type 0 where
  pub reads : printed ≡ undecided_text budget
  pub spent : budget < failed_leaves (tree_of kernel.repository (images_in kernel goals))

abbrev pub MeansStored : KernelContent → List Goal → ℕ → ReportVerdict → List ℕ → Type 0
MeansStored kernel goals budget Done printed = StoredYes kernel goals budget printed
MeansStored kernel goals budget Negative printed = StoredNo kernel goals budget printed
MeansStored kernel goals budget Undecided printed = StoredUndecided kernel goals budget printed

-- The text stands for one kernel, by the grammar of the formats, each goal names a package of it,
-- and the printed bytes mean what their verdict says.
pub record StoredMeans (text : List ℕ) (goals : List Goal) (budget : ℕ) (verdict : ReportVerdict)
    (printed : List ℕ) : Type 0 where
  pub kernel : KernelContent
  pub reads : KernelReads text kernel.format kernel.repository kernel.members kernel.held
  pub once : HasOneReading text
  pub known : (goal : Goal) → In goal goals →
      (m : Member) × In m kernel.members × (is_named_by goal m ≡ true)
  pub means : MeansStored kernel goals budget verdict printed

-- what is reported of a file means this for its text
abbrev pub StoredQueryIsMeant : Type 0
StoredQueryIsMeant = (path : List ℕ) (goals : List Goal) (budget : ℕ) (readings : List OpenedFile)
    (verdict : ReportVerdict) (printed : List ℕ) →
    GivesAnswer (stored_query_course path goals budget) readings (reported verdict printed) →
    (text : List ℕ) × (readings ≡ (path, text) ∷ []) × StoredMeans text goals budget verdict printed
