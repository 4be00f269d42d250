-- What the notes of the real shelf and the real sink say of a run.
use Rattle.std.proofs.Common.{◌≡◌, ℕ, Bool, true, false, cond, List, [], ◌∷◌, ◌++◌, take, Option, Some, refl, sym, ap, subst, ◌∙◌}
use Rattle.std.specs.Prelude.{◌==◌}
use Rattle.byte_flow.specs.{History.{OpenedFile, with_more}, Models.{ShelfModel, SinkModel}}
use Rattle.coinst_run.specs.{declared.answer.ReportVerdict.{ReportVerdict}, Readings.{Noted, NotesReport, Prints, Reports}, declared.status.Status.{Status}}
use Rattle.coinst_run.specs.declared.status.Status.TheVariants.{Done, Negative, Words, Content, ClauseLimit, ReadFault, WriteFault, Memory, Undecided}
use Rattle.coinst_run.specs.{declared.status.Status.TheVariants.{UnknownGoal, TooLarge}, Status.{code_of, verdict_status}}
use Rattle.coinst_run.proofs.Readings.{readings_noted, writing_noted}

-- the status of a code
status_at : ℕ → Status
status_at code =
    cond (code == 0) Done (cond (code == 1) Negative (cond (code == 2) Words (cond (code == 3) Content (cond (code == 4) ClauseLimit (cond (code == 5) ReadFault
    (cond (code == 6) WriteFault (cond (code == 7) Memory (cond (code == 8) Undecided (cond (code == 9) UnknownGoal TooLarge)))))))))

status_again : (s : Status) → status_at (code_of s) ≡ s
unfolding status_at
status_again Done = refl
status_again Negative = refl
status_again Words = refl
status_again Content = refl
status_again ClauseLimit = refl
status_again ReadFault = refl
status_again WriteFault = refl
status_again Memory = refl
status_again Undecided = refl
status_again UnknownGoal = refl
status_again TooLarge = refl

-- statuses of one code are one
pub one_status : (s t : Status) → code_of s ≡ code_of t → s ≡ t
one_status s t e = sym (status_again s) ∙ ap status_at e ∙ status_again t

module _ {S O : Type 0} {M : ShelfModel S} {N : SinkModel O} (handed : S → List OpenedFile) (passed_on : O → List ℕ)
    (starts : (s t : S) (path : List ℕ) → M.start_gives s path true t → handed t ≡ (path, []) ∷ handed s)
    (gives : (s t : S) (asked : ℕ) (bytes : List ℕ) → M.read_gives s asked (Some bytes) t → handed t ≡ with_more bytes (handed s))
    (takes : (s t : O) (piece : List ℕ) (n : ℕ) → N.write_gives s piece (Some n) t → passed_on t ≡ passed_on s ++ take n piece) where
  pub noted_so : {old new : S} {out out_after : O} {P : List OpenedFile → List ℕ → Type 0} → Reports M N old new out out_after P → Noted (handed old) (handed new) (passed_on out) (passed_on out_after) P
  noted_so r = record {
    readings = r.readings;
    printed = r.printed;
    handed_over = readings_noted handed starts gives r.was_read;
    was_passed_on = writing_noted passed_on takes r.was_written;
    holds = r.holds;
  }

  -- a sentence of the run is one of what was noted
  pub notes_so : {old new : S} {out out_after : O} (P : List OpenedFile → ℕ → List ℕ → Type 0) (result : Status) (code : ℕ) → code ≡ code_of result → Prints M N old new out out_after result P →
      NotesReport (handed old) (handed new) (passed_on out) (passed_on out_after) code P
  notes_so {old} {new} {out} {out_after} P result code is prints verdict e =
      noted_so (subst (λ c. Reports M N old new out out_after (λ readings. P readings c)) (sym is) (prints verdict (one_status result (verdict_status verdict) (sym is ∙ e))))
