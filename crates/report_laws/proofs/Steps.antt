-- Where what a part of a course asks for is there, the course goes on; and what is said of some report.
use Rattle.std.proofs.Common.{◌≡◌, ℕ, Bool, cond, List, length, None, refl, ◌∙◌, ap, subst, le-ltb}
use Rattle.byte_flow.specs.Flow.{Files}
use Rattle.repo_model.specs.FirstFault.{first_fault}
use Rattle.suite_compare.specs.Refusals.{home_in, packages_in}
use Rattle.coinst_run.specs.{declared.answer.ReportVerdict.{ReportVerdict}, Answer.{reported}, Present.{HasFile, HasIndex, HasKernel, IsWithinLimit}}
use Rattle.coinst_run.specs.{Course.{Course, reads, then_on}, Delivers.{IsStop}, Index.{Index, by_fault, checked_index, index_in, reads_index}}
use Rattle.coinst_run.specs.{IndexKernel.{ClassedKernel, index_kernel}, Kernel.{by_limit, kernel_of, reads_kernel}, Migrate.{kernel_at, kernel_behind}}
use Rattle.coinst_run.specs.Outcome.{Outcome, answered, file_limit, outcome_over, over_file, too_long}
use Rattle.report_laws.specs.Complete.{GivesReport}

module _ (files : Files) where
  pub file_step : (path : List ℕ) (next : List ℕ → Course) (text : List ℕ) → HasFile files path text → outcome_over files (reads path next) ≡ outcome_over files (next text)
  file_step path next text h =
      ap (λ f. over_file path f (λ t. outcome_over files (next t))) h.is
      ∙ ap (λ b. cond b (answered (too_long path)) (outcome_over files (next text))) (le-ltb file_limit (length text) h.short)

  pub index_step : (path : List ℕ) (next : Index → Course) (text : List ℕ) → HasIndex files path text → outcome_over files (reads_index path next) ≡ outcome_over files (next (index_in text))
  index_step path next text h =
      file_step path (λ t. then_on (checked_index path t) next) text h.file ∙ ap (λ f. outcome_over files (then_on (by_fault path text f) next)) h.accepted

  -- the kernel of an index, and that of an index that is read
  pub limit_step : (path : List ℕ) (limit : ℕ) (hold : Bool) (text : List ℕ) (next : ClassedKernel → Course) → IsWithinLimit limit hold text →
      outcome_over files (then_on (kernel_of path limit hold (index_in text)) next) ≡ outcome_over files (next (index_kernel limit hold (home_in text) (packages_in text)))
  limit_step path limit hold text next h = ap (λ p. outcome_over files (then_on (by_limit path limit hold (index_in text) p) next)) h

  pub kernel_step : (path : List ℕ) (limit : ℕ) (hold : Bool) (next : Index → ClassedKernel → Course) (text : List ℕ) → HasKernel files path limit hold text →
      outcome_over files (reads_kernel path limit hold next) ≡ outcome_over files (next (index_in text) (index_kernel limit hold (home_in text) (packages_in text)))
  kernel_step path limit hold next text h = index_step path (λ index. then_on (kernel_of path limit hold index) (next index)) text h.0 ∙ limit_step path limit hold text (next (index_in text)) h.1

  pub kernel_at_step : (path : List ℕ) (limit : ℕ) (hold : Bool) (text : List ℕ) (next : ClassedKernel → Course) → first_fault text ≡ None → IsWithinLimit limit hold text →
      outcome_over files (then_on (kernel_at path limit hold text) next) ≡ outcome_over files (next (index_kernel limit hold (home_in text) (packages_in text)))
  kernel_at_step path limit hold text next accepted h = ap (λ f. outcome_over files (then_on (kernel_behind path limit hold (by_fault path text f)) next)) accepted ∙ limit_step path limit hold text next h

pub some_alone : (o : Outcome) → GivesReport o → IsStop o → ⊥
some_alone o g stop = subst IsStop g.2 stop

pub told : (verdict : ReportVerdict) (printed : List ℕ) → GivesReport (answered (reported verdict printed))
told verdict printed = (verdict, printed, refl)
