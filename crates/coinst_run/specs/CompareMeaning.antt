-- What the report of a comparison means for the two indexes.
use Rattle.std.specs.Prelude.{◌≡◌, ℕ, Bool, List, length, None, Some, [], ◌∷◌, ◌++◌, filter, map}
use Rattle.byte_flow.specs.History.{OpenedFile}
use Rattle.suite_compare.specs.Indexes.{Judged, searched}
use Rattle.suite_compare.specs.Listing.{ListsExactly, ListsLosses, LosesNothing, says_open}
use Rattle.suite_compare.specs.declared.report.ReportLine.{ReportLine}
use Rattle.kernel_text.specs.KernelLines.{lines_of}
use Rattle.repo_model.specs.FirstFault.{first_fault}
use Rattle.coinst_run.specs.declared.answer.ReportVerdict.{ReportVerdict}
use Rattle.coinst_run.specs.{declared.answer.ReportVerdict.TheVariants.{Done}, Answer.{reported}}
use Rattle.coinst_run.specs.{Compare.{compare_course}, ComparePrints.{PrintsExactly}}
use Rattle.coinst_run.specs.CompareText.{comparison_line, comparison_text, comparison_verdict}
use Rattle.coinst_run.specs.{CompareText.{end_text}, Outcome.{GivesAnswer}}

-- Both texts are indexes without a fault. The line `broken NAME` is printed for exactly those names
-- of both that the older index can install and the newer one cannot. The line `open NAME` is
-- printed for exactly those at which a search that was needed went past the budget. It is so for
-- pairs of names too, each once and in order. A line with their numbers follows. If the last line
-- says that none is open, what is broken is exactly what the newer index has lost, whatever the
-- budget was. If the run is done with nothing broken and nothing open, the newer index can install
-- each name of both that the older one can. It can then also install each two of them together that
-- the older one can.
pub record CompareMeans (old new : List ℕ) (budget limit : ℕ) (hold : Bool)
    (verdict : ReportVerdict) (printed : List ℕ) : Type 0 where
  pub old_accepted : first_fault old ≡ None
  pub new_accepted : first_fault new ≡ None
  pub prints : PrintsExactly (searched old budget limit hold)
      (searched new budget limit hold) printed
  pub lines : List ReportLine
  pub exact : ListsExactly Judged (searched old budget limit hold)
      (searched new budget limit hold) lines
  pub cut : lines_of printed ≡ map comparison_line lines ++ end_text lines ∷ []
  pub losses : length (filter says_open lines) ≡ 0 →
      ListsLosses (searched old budget limit hold) (searched new budget limit hold) lines
  pub nothing_lost : verdict ≡ Done →
      LosesNothing (searched old budget limit hold) (searched new budget limit hold)
  pub reads : printed ≡ comparison_text lines
  pub whole : verdict ≡ comparison_verdict lines

-- what is reported of two files means this for their texts
abbrev pub CompareIsMeant : Type 0
CompareIsMeant = (old new : List ℕ) (budget limit : ℕ) (hold : Bool) (readings : List OpenedFile)
    (verdict : ReportVerdict) (printed : List ℕ) →
    GivesAnswer (compare_course old new budget limit hold) readings (reported verdict printed) →
    (first second : List ℕ) × (readings ≡ (old, first) ∷ (new, second) ∷ [])
    × CompareMeans first second budget limit hold verdict printed
