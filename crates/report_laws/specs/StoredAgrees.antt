-- The kernel text that is printed of an index answers goals as the index does.
use Rattle.std.specs.Prelude.{◌≡◌, ℕ, ◌≤◌, Bool, false, List, length, Some, None}
use Rattle.byte_flow.specs.Flow.{Files}
use Rattle.kernel_text.specs.{KernelReads.{KernelReads, content}, declared.member.Member.{Member}}
use Rattle.kernel_text.specs.Serving.{images_in}
use Rattle.repo_model.specs.{FirstFault.{first_fault}, declared.goals.Goal.{Goal}}
use Rattle.row_book.specs.Repository.{Repository}
use Rattle.search_terms.specs.declared.literals.Literal.{Literal}
use Rattle.suite_compare.specs.{Asking.{images_of, installation}, Refusals.{home_in, packages_in}}
use Rattle.coinst_run.specs.declared.answer.Cause.TheVariants.{UnknownGoal}
use Rattle.coinst_run.specs.declared.answer.ReportVerdict.{ReportVerdict}
use Rattle.coinst_run.specs.declared.answer.ReportVerdict.TheVariants.{Done, Negative, Undecided}
use Rattle.coinst_run.specs.{Answer.{Answer, refused, reported}, Index.{Index, index_in}}
use Rattle.coinst_run.specs.{IndexKernel.{index_kernel, text_for}, Kernel.{kernel_course}}
use Rattle.coinst_run.specs.{Outcome.{answered, file_limit, outcome_over}, Query.{query_course}}
use Rattle.coinst_run.specs.QueryText.{no_text, undecided_text, yes_text}
use Rattle.coinst_run.specs.StoredQuery.{classes_text, stored_query_course}

-- Two answers to goals, the first over an index and the second over a stored kernel, are one. Both
-- are no with the same log, or undecided, or refuse an unknown goal with the same line. Or both are
-- yes, the first with the packages that are installed if the second's classes are found.
pub data AreOneAnswer (index : Index) (goals : List Goal) (budget limit : ℕ)
    (hold : Bool) : Answer → Answer → Type 0 where
  yes : (chosen : List Bool) →
      AreOneAnswer index goals budget limit hold (reported Done
      (yes_text index.packages (installation limit hold index.home index.packages goals chosen)))
      (reported Done (classes_text chosen))
  no : (log : List (List Literal)) → AreOneAnswer index goals budget limit hold
      (reported Negative (no_text log)) (reported Negative (no_text log))
  undecided : AreOneAnswer index goals budget limit hold
      (reported Undecided (undecided_text budget)) (reported Undecided (undecided_text budget))
  unknown : (line : List ℕ) → AreOneAnswer index goals budget limit hold (refused UnknownGoal line)
      (refused UnknownGoal line)

-- the answers over an index at a clause limit, with hold or without, and over a stored kernel, are
-- one
pub record AnswersAsIndex (files : Files) (index stored text : List ℕ) (goals : List Goal)
    (budget limit : ℕ) (hold : Bool) : Type 0 where
  pub of_index : Answer
  pub of_stored : Answer
  pub asked : outcome_over files (query_course index goals budget limit hold) ≡ answered of_index
  pub asked_stored : outcome_over files (stored_query_course stored goals budget)
      ≡ answered of_stored
  pub same : AreOneAnswer (index_in text) goals budget limit hold of_index of_stored

-- What the command `kernel` prints of an index at a clause limit, with hold or without, is stored
-- in a file that is not too long. The stored kernel answers goals as the index does at that limit
-- and hold and with the same budget.
abbrev pub StoredAnswersAsIndex : Type 0
StoredAnswersAsIndex = (files : Files) (index stored text printed : List ℕ) (goals : List Goal)
    (budget limit : ℕ) (hold : Bool) (verdict : ReportVerdict) →
    files index ≡ Some text → outcome_over files (kernel_course index false limit hold) ≡ answered
    (reported verdict printed) → files stored ≡ Some printed → length printed ≤ file_limit →
    AnswersAsIndex files index stored text goals budget limit hold

-- In the kernel text of an index, goals name the classes of the packages that they name in the
-- index.
abbrev pub StoredImagesAreOfIndex : Type 0
StoredImagesAreOfIndex = (text : List ℕ) (limit : ℕ) (hold : Bool) (format : ℕ) (R : Repository)
    (members : List Member) (held : List ℕ) → first_fault text ≡ None →
    KernelReads (text_for (packages_in text)
    (index_kernel limit hold (home_in text) (packages_in text))) format R members held →
    (goals : List Goal) → images_in (content format R members held) goals
    ≡ images_of limit hold (home_in text) (packages_in text) goals
