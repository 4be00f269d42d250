-- A course that gives a report was given what it asks for.
use Rattle.std.proofs.Common.{◌≡◌, ℕ, Bool, List, [], ◌∷◌, Option, Some, None, refl, ◌∙◌}
use Rattle.byte_flow.specs.History.{OpenedFile}
use Rattle.repo_model.specs.{declared.fault.IndexFault.{IndexFault}, FirstFault.{first_fault}, Repository.{suite_repository}}
use Rattle.row_book.specs.Rounds.{PassedRound, limit_at}
use Rattle.suite_compare.specs.Refusals.{home_in, packages_in}
use Rattle.coinst_run.specs.{declared.answer.ReportVerdict.{ReportVerdict}, Answer.{Answer, reported}, Course.{Course, answers, reads, then_on}}
use Rattle.coinst_run.specs.{Index.{Index, by_fault, checked_index, index_in}, IndexKernel.{ClassedKernel, index_kernel}}
use Rattle.coinst_run.specs.{Kernel.{by_limit, kernel_of, reads_kernel}, Migrate.{kernel_at, kernel_behind}, Outcome.{GivesAnswer, at_once, by_text}}

module _ (verdict : ReportVerdict) (printed : List ℕ) where
  abbrev pub Reported : Course → List OpenedFile → Type 0
  Reported course readings = GivesAnswer course readings (reported verdict printed)

  -- a course that answers reads no more
  pub at_end : (answer : Answer) (readings : List OpenedFile) → Reported (answers answer) readings → (readings ≡ []) × (answer ≡ reported verdict printed)
  at_end answer readings (at_once said) = (refl, refl)

  -- a course that reads was given a text
  pub file_read : (path : List ℕ) (next : List ℕ → Course) (readings : List OpenedFile) → Reported (reads path next) readings →
      (text : List ℕ) × (rest : List OpenedFile) × (readings ≡ (path, text) ∷ rest) × Reported (next text) rest
  file_read path next readings (by_text at text onward rest answer within g) = (text, rest, refl, g)

  -- the text is an index without a fault
  pub checked_read : (path : List ℕ) (next : Index → Course) (text : List ℕ) (readings : List OpenedFile) → Reported (then_on (checked_index path text) next) readings → (first_fault text ≡ None) × Reported (next (index_in text)) readings
  checked_read path next text readings g = by (first_fault text) refl g
    where
      by : (fault : Option IndexFault) → first_fault text ≡ fault → Reported (then_on (by_fault path text fault) next) readings → (first_fault text ≡ None) × Reported (next (index_in text)) readings
      by None is g = (is, g)
      by (Some fault) is g = absurd (let e = (at_end _ readings g).1 in let no : ⊥ = cc in no)

  -- no round of it passes the limit
  pub limit_read : (path : List ℕ) (limit : ℕ) (hold : Bool) (text : List ℕ) (next : ClassedKernel → Course) (readings : List OpenedFile) → Reported (then_on (kernel_of path limit hold (index_in text)) next) readings →
      Reported (next (index_kernel limit hold (home_in text) (packages_in text))) readings
  limit_read path limit hold text next readings g = by (limit_at limit hold (suite_repository (home_in text) (packages_in text))) g
    where
      by : (passed : Option PassedRound) → Reported (then_on (by_limit path limit hold (index_in text) passed) next) readings → Reported (next (index_kernel limit hold (home_in text) (packages_in text))) readings
      by None g = g
      by (Some passed) g = absurd (let e = (at_end _ readings g).1 in let no : ⊥ = cc in no)

  -- a course that reads an index and its kernel was given the text of an index without a fault
  pub kernel_read : (path : List ℕ) (limit : ℕ) (hold : Bool) (next : Index → ClassedKernel → Course) (readings : List OpenedFile) → Reported (reads_kernel path limit hold next) readings →
      (text : List ℕ) × (rest : List OpenedFile) × (readings ≡ (path, text) ∷ rest) × (first_fault text ≡ None) × Reported (next (index_in text) (index_kernel limit hold (home_in text) (packages_in text))) rest
  kernel_read path limit hold next readings g =
      let onward : Index → Course = λ index. then_on (kernel_of path limit hold index) (next index) in
      let w = file_read path (λ text. then_on (checked_index path text) onward) readings g in
      let c : (first_fault w.0 ≡ None) × Reported (onward (index_in w.0)) w.1 = checked_read path onward w.0 w.1 w.3 in
      (w.0, w.1, w.2, c.0, limit_read path limit hold w.0 (next (index_in w.0)) w.1 c.1)

  pub kernel_at_read : (path : List ℕ) (limit : ℕ) (hold : Bool) (text : List ℕ) (next : ClassedKernel → Course) (readings : List OpenedFile) → Reported (then_on (kernel_at path limit hold text) next) readings →
      (first_fault text ≡ None) × Reported (next (index_kernel limit hold (home_in text) (packages_in text))) readings
  kernel_at_read path limit hold text next readings g = by (first_fault text) refl g
    where
      by : (fault : Option IndexFault) → first_fault text ≡ fault → Reported (then_on (kernel_behind path limit hold (by_fault path text fault)) next) readings →
          (first_fault text ≡ None) × Reported (next (index_kernel limit hold (home_in text) (packages_in text))) readings
      by None is g = (is, limit_read path limit hold text next readings g)
      by (Some fault) is g = absurd (let e = (at_end _ readings g).1 in let no : ⊥ = cc in no)
