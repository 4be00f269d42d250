-- A part of a course goes on exactly where what it asks for is there.
use Rattle.std.proofs.{Common.{◌≡◌, ℕ, Bool, true, false, cond, List, length, Option, Some, None, refl, subst}, lemmas.Bool.{ltb-false}}
use Rattle.std.specs.Prelude.{nat_lt}
use Rattle.byte_flow.specs.Flow.{Files}
use Rattle.repo_model.specs.{declared.fault.IndexFault.{IndexFault}, FirstFault.{first_fault}, Repository.{suite_repository}}
use Rattle.row_book.specs.Rounds.{PassedRound, limit_at}
use Rattle.suite_compare.specs.Refusals.{home_in, packages_in}
use Rattle.coinst_run.specs.{declared.answer.ReportVerdict.{ReportVerdict}, Answer.{reported}, Present.{HasFile, HasKernel, IsWithinLimit}}
use Rattle.coinst_run.specs.{Course.{Course, reads, then_on}, Delivers.{IsStop}, Index.{Index, by_fault, checked_index, index_in}}
use Rattle.coinst_run.specs.{IndexKernel.{ClassedKernel, index_kernel}, Kernel.{by_limit, kernel_of, reads_kernel}, Migrate.{kernel_at, kernel_behind}}
use Rattle.coinst_run.specs.Outcome.{Outcome, answered, file_limit, outcome_over, over_file, too_long, unread}

-- ---- what is said of where it leads, and of no stop, is said of where it goes on

module _ (P : Outcome → Type 0) (only : (o : Outcome) → P o → IsStop o → ⊥) (files : Files) where
  pub file_used : (path : List ℕ) (next : List ℕ → Course) → P (outcome_over files (reads path next)) → (text : List ℕ) × HasFile files path text × P (outcome_over files (next text))
  file_used path next g = by (files path) refl g
    where
      fitting : (text : List ℕ) → files path ≡ Some text → (b : Bool) → nat_lt file_limit (length text) ≡ b → P (cond b (answered (too_long path)) (outcome_over files (next text))) →
          (text : List ℕ) × HasFile files path text × P (outcome_over files (next text))
      fitting text is true e g = absurd (only (answered (too_long path)) g tt)
      fitting text is false e g = (text, record { is = is; short = ltb-false file_limit (length text) e }, g)

      by : (file : Option (List ℕ)) → files path ≡ file → P (over_file path file (λ text. outcome_over files (next text))) → (text : List ℕ) × HasFile files path text × P (outcome_over files (next text))
      by None is g = absurd (only (unread path) g tt)
      by (Some text) is g = fitting text is (nat_lt file_limit (length text)) refl g

  pub checked_used : (path : List ℕ) (next : Index → Course) (text : List ℕ) → P (outcome_over files (then_on (checked_index path text) next)) → (first_fault text ≡ None) × P (outcome_over files (next (index_in text)))
  checked_used path next text g = by (first_fault text) refl g
    where
      by : (fault : Option IndexFault) → first_fault text ≡ fault → P (outcome_over files (then_on (by_fault path text fault) next)) → (first_fault text ≡ None) × P (outcome_over files (next (index_in text)))
      by None is g = (is, g)
      by (Some fault) is g = absurd (only _ g tt)

  pub limit_used : (path : List ℕ) (limit : ℕ) (hold : Bool) (text : List ℕ) (next : ClassedKernel → Course) → P (outcome_over files (then_on (kernel_of path limit hold (index_in text)) next)) →
      IsWithinLimit limit hold text × P (outcome_over files (next (index_kernel limit hold (home_in text) (packages_in text))))
  limit_used path limit hold text next g = by (limit_at limit hold (suite_repository (home_in text) (packages_in text))) refl g
    where
      by : (passed : Option PassedRound) → limit_at limit hold (suite_repository (home_in text) (packages_in text)) ≡ passed → P (outcome_over files (then_on (by_limit path limit hold (index_in text) passed) next)) →
          IsWithinLimit limit hold text × P (outcome_over files (next (index_kernel limit hold (home_in text) (packages_in text))))
      by None is g = (is, g)
      by (Some passed) is g = absurd (only _ g tt)

  pub kernel_used : (path : List ℕ) (limit : ℕ) (hold : Bool) (next : Index → ClassedKernel → Course) → P (outcome_over files (reads_kernel path limit hold next)) →
      (text : List ℕ) × HasKernel files path limit hold text × P (outcome_over files (next (index_in text) (index_kernel limit hold (home_in text) (packages_in text))))
  kernel_used path limit hold next g =
      let onward : Index → Course = λ index. then_on (kernel_of path limit hold index) (next index) in
      let w : (text : List ℕ) × HasFile files path text × P (outcome_over files (then_on (checked_index path text) onward)) = file_used path (λ text. then_on (checked_index path text) onward) g in
      let c : (first_fault w.0 ≡ None) × P (outcome_over files (onward (index_in w.0))) = checked_used path onward w.0 w.2 in
      let k : IsWithinLimit limit hold w.0 × P (outcome_over files (next (index_in w.0) (index_kernel limit hold (home_in w.0) (packages_in w.0)))) = limit_used path limit hold w.0 (next (index_in w.0)) c.1 in
      (w.0, (record { file = w.1; accepted = c.0 }, k.0), k.1)

  pub kernel_at_used : (path : List ℕ) (limit : ℕ) (hold : Bool) (text : List ℕ) (next : ClassedKernel → Course) → P (outcome_over files (then_on (kernel_at path limit hold text) next)) →
      (first_fault text ≡ None) × IsWithinLimit limit hold text × P (outcome_over files (next (index_kernel limit hold (home_in text) (packages_in text))))
  kernel_at_used path limit hold text next g = by (first_fault text) refl g
    where
      by : (fault : Option IndexFault) → first_fault text ≡ fault → P (outcome_over files (then_on (kernel_behind path limit hold (by_fault path text fault)) next)) →
          (first_fault text ≡ None) × IsWithinLimit limit hold text × P (outcome_over files (next (index_kernel limit hold (home_in text) (packages_in text))))
      by None is g = let k = limit_used path limit hold text next g in (is, k.0, k.1)
      by (Some fault) is g = absurd (only _ g tt)

-- so it is of a report
abbrev pub GivesThis : ReportVerdict → List ℕ → Outcome → Type 0
GivesThis verdict printed o = o ≡ answered (reported verdict printed)

pub this_alone : (verdict : ReportVerdict) (printed : List ℕ) (o : Outcome) → GivesThis verdict printed o → IsStop o → ⊥
this_alone verdict printed o e stop = subst IsStop e stop
