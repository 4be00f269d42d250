-- What a run answers, by how the course of its command ended and what the sinks took.
use Rattle.std.proofs.Common.{◌≡◌, ℕ, Bool, List, [], Option, Some, None, refl, sym, ap, subst, ◌∙◌, inl, inr}
use Rattle.std.specs.{Prelude.{◌⊎◌, IfSome}, Io.KnownBytes.{Appends}}
use Rattle.byte_flow.specs.{Flow.{Files, Rose}, History.{OpenedFile}, Models.{ShelfModel, SinkModel}, Transfer.{Sent}}
use Rattle.coinst_run.specs.{declared.answer.Cause.{Cause}, declared.answer.Cause.TheVariants.{Content, ClauseLimit, UnknownGoal, TooLarge}}
use Rattle.coinst_run.specs.{declared.answer.ReportVerdict.{ReportVerdict}, declared.answer.ReportVerdict.TheVariants.{Done, Negative, Undecided}}
use Rattle.coinst_run.specs.declared.status.Status.{Status}
use Rattle.coinst_run.specs.declared.status.Status.TheVariants as status
use Rattle.coinst_words.specs.{declared.job.Job.{Job}, declared.error.WordError.{WordError}}
use Rattle.coinst_words.specs.declared.error.WordError.TheVariants as words
use Rattle.coinst_run.specs.{Answer.{reported, refused}, Delivers.{Delivers, IsRefused, Tells, a_cut_report, a_refusal, a_report}}
use Rattle.coinst_run.specs.{Ending.{stop_ending, word_stop}, Follows.{FollowsJob, of_a_job, of_no_job, without_memory, without_memory_for_words}}
use Rattle.coinst_run.specs.Meaning.{IsMeant, MeansJob, course_of, of_job, outcome_for}
use Rattle.coinst_run.specs.Outcome.{Outcome, answered, unread, not_a_command, report_of, status_of, too_long}
use Rattle.coinst_run.specs.{Readings.{IsOfText, Prints, RunRefuses, Reports}, Run.{RunAnswers, Completes}}
use Rattle.coinst_run.proofs.Readings.{LedTo, led_to}
use Rattle.coinst_run.specs.Run as run
use Rattle.coinst_run.specs.Status.{cause_status, code_of, verdict_status}
use Rattle.coinst_words.specs.{Jobs.{job_of}, Refusals.{OnNotACommand}}
use Rattle.coinst_run.proofs.Ends.{EndsAs}
use Rattle.coinst_run.proofs.Ends as ends
use Rattle.coinst_run.proofs.{Follows.{ends_as, no_words, unread_rose}, Meaning.{report_means}, Telling.{appends_none}}

-- a fact where the contents are told
pub each_told : (contents : Option Files) {Q : Files → Type 0} → ((files : Files) → contents ≡ Some files → Q files) → IfSome contents Q
each_told None f = tt
each_told (Some files) f = f files refl

pub if_told : (contents : Option Files) {P Q : Files → Type 0} → ((files : Files) → P files → Q files) → IfSome contents P → IfSome contents Q
if_told None f h = tt
if_told (Some files) f h = f files h

-- the statuses of reports and refusals
record IsAnswered (s : Status) : Type 0 where
  not_words : s ≡ status.Words → ⊥
  not_unread : s ≡ status.ReadFault → ⊥
  not_cut : s ≡ status.WriteFault → ⊥
  not_memory : s ≡ status.Memory → ⊥

of_verdict : (verdict : ReportVerdict) → IsAnswered (verdict_status verdict)
of_verdict Done = record { not_words = λ e. cc; not_unread = λ e. cc; not_cut = λ e. cc; not_memory = λ e. cc }
of_verdict Negative = record { not_words = λ e. cc; not_unread = λ e. cc; not_cut = λ e. cc; not_memory = λ e. cc }
of_verdict Undecided = record { not_words = λ e. cc; not_unread = λ e. cc; not_cut = λ e. cc; not_memory = λ e. cc }

of_cause : (cause : Cause) → IsAnswered (cause_status cause)
of_cause Content = record { not_words = λ e. cc; not_unread = λ e. cc; not_cut = λ e. cc; not_memory = λ e. cc }
of_cause ClauseLimit = record { not_words = λ e. cc; not_unread = λ e. cc; not_cut = λ e. cc; not_memory = λ e. cc }
of_cause UnknownGoal = record { not_words = λ e. cc; not_unread = λ e. cc; not_cut = λ e. cc; not_memory = λ e. cc }
of_cause TooLarge = record { not_words = λ e. cc; not_unread = λ e. cc; not_cut = λ e. cc; not_memory = λ e. cc }

-- a refusal has no status of a report, and each report its own
no_verdict : (cause : Cause) (verdict : ReportVerdict) → cause_status cause ≡ verdict_status verdict → ⊥
no_verdict Content Done = λ e. cc
no_verdict Content Negative = λ e. cc
no_verdict Content Undecided = λ e. cc
no_verdict ClauseLimit Done = λ e. cc
no_verdict ClauseLimit Negative = λ e. cc
no_verdict ClauseLimit Undecided = λ e. cc
no_verdict UnknownGoal Done = λ e. cc
no_verdict UnknownGoal Negative = λ e. cc
no_verdict UnknownGoal Undecided = λ e. cc
no_verdict TooLarge Done = λ e. cc
no_verdict TooLarge Negative = λ e. cc
no_verdict TooLarge Undecided = λ e. cc

one_cause : (first second : Cause) → cause_status first ≡ cause_status second → first ≡ second
one_cause Content Content e = refl
one_cause Content ClauseLimit e = absurd (cc e)
one_cause Content UnknownGoal e = absurd (cc e)
one_cause Content TooLarge e = absurd (cc e)
one_cause ClauseLimit Content e = absurd (cc e)
one_cause ClauseLimit ClauseLimit e = refl
one_cause ClauseLimit UnknownGoal e = absurd (cc e)
one_cause ClauseLimit TooLarge e = absurd (cc e)
one_cause UnknownGoal Content e = absurd (cc e)
one_cause UnknownGoal ClauseLimit e = absurd (cc e)
one_cause UnknownGoal UnknownGoal e = refl
one_cause UnknownGoal TooLarge e = absurd (cc e)
one_cause TooLarge Content e = absurd (cc e)
one_cause TooLarge ClauseLimit e = absurd (cc e)
one_cause TooLarge UnknownGoal e = absurd (cc e)
one_cause TooLarge TooLarge e = refl

-- what was refused for what was read is not that a file is too long
short_text : (cause : Cause) (line : List ℕ) → IsOfText cause → (path : List ℕ) → too_long path ≡ refused cause line → ⊥
short_text Content line of path e = cc
short_text ClauseLimit line of path e = cc
short_text UnknownGoal line of path e = cc
short_text TooLarge line of path e = of

one_verdict : (first second : ReportVerdict) → verdict_status first ≡ verdict_status second → first ≡ second
one_verdict Done Done e = refl
one_verdict Done Negative e = absurd (cc e)
one_verdict Done Undecided e = absurd (cc e)
one_verdict Negative Done e = absurd (cc e)
one_verdict Negative Negative e = refl
one_verdict Negative Undecided e = absurd (cc e)
one_verdict Undecided Done e = absurd (cc e)
one_verdict Undecided Negative e = absurd (cc e)
one_verdict Undecided Undecided e = refl

-- where the outcome is told, the clauses on it follow from the ways to answer
module _ {Quiet RoseIn RoseOut : Type 0} {room : ℕ} {Line : List ℕ → Type 0} {old new : Option (List ℕ)} {result : Status} where
  pub completes_told : (o : Outcome) → RunAnswers Quiet RoseIn RoseOut room Line o old new result → (RoseIn → ⊥) → (RoseOut → ⊥) → Completes result o
  completes_told o (run.as_told is took line) noread nowrite report = inl is
  completes_told o (run.unread_file path is rose quiet took line) noread nowrite report = absurd (noread rose)
  completes_told o (run.cut_report is rose roomless report took) noread nowrite h = absurd (nowrite rose)
  completes_told o (run.want_of_memory is took) noread nowrite report = inr is

nothing : {O : Type 0} (taken : O → Option (List ℕ)) (out out_after : O) → out_after ≡ out → Appends (taken out) (taken out_after) []
nothing taken out out_after same = subst (λ x. Appends (taken out) (taken x) []) (sym same) (appends_none (taken out))

module _ {O E : Type 0} {N : SinkModel O} {L : SinkModel E} {out out_after : O} {err err_after : E} {result : Status} where
  -- a run whose outcome is told
  pub answers_told : {Quiet RoseIn : Type 0} (o : Outcome) {ending : Option Outcome} → EndsAs Quiet o ending → ((path : List ℕ) → ending ≡ Some (unread path) → RoseIn) →
      Delivers N L out err result out_after err_after ending →
      RunAnswers Quiet RoseIn (Rose (N.faults out) (N.faults out_after)) (N.room out) (Tells L err err_after) o (N.taken out) (N.taken out_after) result
  answers_told o ends.as_told rose (a_report verdict report w) = run.as_told w.status w.took (λ stop. absurd stop)
  answers_told o ends.as_told rose (a_cut_report verdict report k) = run.cut_report k.status k.rose k.roomless (λ stop. stop) (k.written, k.short, k.took)
  answers_told o ends.as_told rose (a_refusal ending same d) = as_refused o same d
    where
      as_refused : {Quiet RoseIn : Type 0} (o : Outcome) → out_after ≡ out → IsRefused L err (Some o) result err_after →
          RunAnswers Quiet RoseIn (Rose (N.faults out) (N.faults out_after)) (N.room out) (Tells L err err_after) o (N.taken out) (N.taken out_after) result
      as_refused (answered (reported verdict report)) same d = absurd d.0
      as_refused (answered (refused cause line)) same d = run.as_told d.1 (nothing N.taken out out_after same) (λ stop. d.2)
      as_refused (unread path) same d = run.as_told d.1 (nothing N.taken out out_after same) (λ stop. d.2)
      as_refused not_a_command same d = run.as_told d.1 (nothing N.taken out out_after same) (λ stop. d.2)
  answers_told o (ends.at_an_unread_file path quiet) rose (a_refusal ending same d) = run.unread_file path d.1 (rose path refl) quiet (nothing N.taken out out_after same) d.2
  answers_told o ends.without_memory rose (a_refusal ending same d) = run.want_of_memory d.0 (nothing N.taken out out_after same)

  -- a write fault comes of a failed write
  pub cut_rose : (ending : Option Outcome) → Delivers N L out err result out_after err_after ending → result ≡ status.WriteFault → Rose (N.faults out) (N.faults out_after)
  cut_rose ending (a_report verdict report w) e = absurd ((of_verdict verdict).not_cut (sym w.status ∙ e))
  cut_rose ending (a_cut_report verdict report k) e = k.rose
  cut_rose (Some (answered (reported verdict report))) (a_refusal ending same d) e = absurd d.0
  cut_rose (Some (answered (refused cause line))) (a_refusal ending same d) e = absurd ((of_cause cause).not_cut (sym d.1 ∙ e))
  cut_rose (Some (unread path)) (a_refusal ending same d) e = absurd (let k : status.ReadFault ≡ status.WriteFault = sym d.1 ∙ e in cc)
  cut_rose (Some not_a_command) (a_refusal ending same d) e = absurd (let k : status.Words ≡ status.WriteFault = sym d.1 ∙ e in cc)
  cut_rose None (a_refusal ending same d) e = absurd (let k : status.Memory ≡ status.WriteFault = sym d.0 ∙ e in cc)

  -- a run with the status of a report wrote one whole
  pub wrote : (ending : Option Outcome) (verdict : ReportVerdict) → Delivers N L out err result out_after err_after ending → result ≡ verdict_status verdict →
      (report : List ℕ) × (ending ≡ Some (answered (reported verdict report))) × Sent N out report out_after [] × Appends (N.taken out) (N.taken out_after) report
  wrote ending verdict (a_report said report w) e = (report, ap (λ v. Some (answered (reported v report))) (one_verdict said verdict (sym w.status ∙ e)), w.calls, w.took)
  wrote ending verdict (a_cut_report said report k) e = absurd ((of_verdict verdict).not_cut (sym e ∙ k.status))
  wrote (Some (answered (reported said report))) verdict (a_refusal ending same d) e = absurd d.0
  wrote (Some (answered (refused cause line))) verdict (a_refusal ending same d) e = absurd (no_verdict cause verdict (sym d.1 ∙ e))
  wrote (Some (unread path)) verdict (a_refusal ending same d) e = absurd ((of_verdict verdict).not_unread (sym e ∙ d.1))
  wrote (Some not_a_command) verdict (a_refusal ending same d) e = absurd ((of_verdict verdict).not_words (sym e ∙ d.1))
  wrote None verdict (a_refusal ending same d) e = absurd ((of_verdict verdict).not_memory (sym e ∙ d.0))

  -- a run with the status of a refusal wrote nothing, and told its line
  refused_so : (ending : Option Outcome) (cause : Cause) → Delivers N L out err result out_after err_after ending → result ≡ cause_status cause →
      (line : List ℕ) × (ending ≡ Some (answered (refused cause line))) × (out_after ≡ out) × Tells L err err_after line
  refused_so ending cause (a_report said report w) e = absurd (no_verdict cause said (sym e ∙ w.status))
  refused_so ending cause (a_cut_report said report k) e = absurd ((of_cause cause).not_cut (sym e ∙ k.status))
  refused_so (Some (answered (reported said report))) cause (a_refusal ending same d) e = absurd d.0
  refused_so (Some (answered (refused found line))) cause (a_refusal ending same d) e = (line, ap (λ c. Some (answered (refused c line))) (one_cause found cause (sym d.1 ∙ e)), same, d.2)
  refused_so (Some (unread path)) cause (a_refusal ending same d) e = absurd ((of_cause cause).not_unread (sym e ∙ d.1))
  refused_so (Some not_a_command) cause (a_refusal ending same d) e = absurd ((of_cause cause).not_words (sym e ∙ d.1))
  refused_so None cause (a_refusal ending same d) e = absurd ((of_cause cause).not_memory (sym e ∙ d.0))

  -- a read fault is told of an unread file
  unread_at : (ending : Option Outcome) → Delivers N L out err result out_after err_after ending → result ≡ status.ReadFault → (path : List ℕ) × (ending ≡ Some (unread path))
  unread_at ending (a_report verdict report w) e = absurd ((of_verdict verdict).not_unread (sym w.status ∙ e))
  unread_at ending (a_cut_report verdict report k) e = absurd (let l : status.WriteFault ≡ status.ReadFault = sym k.status ∙ e in cc)
  unread_at (Some (answered (reported verdict report))) (a_refusal ending same d) e = absurd d.0
  unread_at (Some (answered (refused cause line))) (a_refusal ending same d) e = absurd ((of_cause cause).not_unread (sym d.1 ∙ e))
  unread_at (Some (unread path)) (a_refusal ending same d) e = (path, refl)
  unread_at (Some not_a_command) (a_refusal ending same d) e = absurd (let k : status.Words ≡ status.ReadFault = sym d.1 ∙ e in cc)
  unread_at None (a_refusal ending same d) e = absurd (let k : status.Memory ≡ status.ReadFault = sym d.0 ∙ e in cc)

  -- the words are refused of no command
  words_at : (ending : Option Outcome) → Delivers N L out err result out_after err_after ending → result ≡ status.Words → ending ≡ Some not_a_command
  words_at ending (a_report verdict report w) e = absurd ((of_verdict verdict).not_words (sym w.status ∙ e))
  words_at ending (a_cut_report verdict report k) e = absurd (let l : status.WriteFault ≡ status.Words = sym k.status ∙ e in cc)
  words_at (Some (answered (reported verdict report))) (a_refusal ending same d) e = absurd d.0
  words_at (Some (answered (refused cause line))) (a_refusal ending same d) e = absurd ((of_cause cause).not_words (sym d.1 ∙ e))
  words_at (Some (unread path)) (a_refusal ending same d) e = absurd (let k : status.ReadFault ≡ status.Words = sym d.1 ∙ e in cc)
  words_at (Some not_a_command) (a_refusal ending same d) e = refl
  words_at None (a_refusal ending same d) e = absurd (let k : status.Memory ≡ status.Words = sym d.0 ∙ e in cc)

  words_from : Delivers N L out err result out_after err_after (Some not_a_command) → result ≡ status.Words
  words_from (a_refusal ending same d) = d.1

  memory_from : Delivers N L out err result out_after err_after None → result ≡ status.Memory
  memory_from (a_refusal ending same d) = d.0

module _ {F : Type 0} {M : ShelfModel F} where
  job_rose : {job : Option Job} {shelf after : F} {ending : Option Outcome} {path : List ℕ} → FollowsJob M job shelf ending after → ending ≡ Some (unread path) →
      Rose (M.faults shelf) (M.faults after)
  job_rose (of_no_job s) e = absurd cc
  job_rose (without_memory_for_words s) e = absurd cc
  job_rose (of_a_job job s t x f) e = unread_rose f e

  job_ends : {job : Option Job} {shelf after : F} {ending : Option Outcome} (files : Files) → FollowsJob M job shelf ending after → M.contents shelf ≡ Some files →
      EndsAs (M.is_quiet shelf) (of_job job files) ending
  job_ends files (of_no_job s) is = ends.as_told
  job_ends files (without_memory_for_words s) is = ends.without_memory
  job_ends files (of_a_job job s t x f) is = ends_as files f is

  -- words that give no job are refused, or no memory is found
  pub words_refused : (job : Option Job) (error : WordError) → OnNotACommand (job ≡ None) error → (s : F) → FollowsJob M job s (stop_ending (word_stop error)) s
  words_refused None words.NotACommand h s = of_no_job s
  words_refused None words.Memory h s = without_memory_for_words s
  words_refused (Some job) words.NotACommand h s = absurd cc
  words_refused (Some job) words.Memory h s = of_a_job job s s None (without_memory (course_of job) s)

  -- a run with the status of a report read files whole and wrote their report whole, and this holds of them
  reports_job : {O : Type 0} {N : SinkModel O} {job : Option Job} {shelf : F} {ending : Option Outcome} {after : F} {out out_after : O} (words : List (List ℕ)) (verdict : ReportVerdict) (report : List ℕ) (P : List OpenedFile → List ℕ → Type 0) → job_of words ≡ job →
      FollowsJob M job shelf ending after → ending ≡ Some (answered (reported verdict report)) → Sent N out report out_after [] → Appends (N.taken out) (N.taken out_after) report →
      ((readings : List OpenedFile) (printed : List ℕ) → IsMeant words readings verdict printed → P readings printed) → Reports M N shelf after out out_after P
  reports_job words verdict report P asked (of_no_job s) e sent took to = absurd cc
  reports_job words verdict report P asked (without_memory_for_words s) e sent took to = absurd cc
  reports_job words verdict report P asked (of_a_job job s t x f) e sent took to =
      let led : LedTo M (course_of job) s t (reported verdict report) = led_to (reported verdict report) (λ path is. absurd cc) f e in
      record {
        readings = led.readings;
        printed = report;
        was_read = led.was_read;
        contents_say = led.told;
        was_written = sent;
        took = took;
        holds = to led.readings report (record { job = job; asked = asked; means = report_means job led.readings verdict report led.gives });
      }

  -- a run with the status of a refusal for what was read
  refuses_job : {O : Type 0} {job : Option Job} {shelf : F} {ending : Option Outcome} {after : F} {out out_after : O} (words : List (List ℕ)) (cause : Cause) (line : List ℕ) (Line : List ℕ → Type 0) → IsOfText cause → job_of words ≡ job →
      FollowsJob M job shelf ending after → ending ≡ Some (answered (refused cause line)) → out_after ≡ out → Line line → RunRefuses M shelf after out out_after words cause Line
  refuses_job words cause line Line of asked (of_no_job s) e same said = absurd cc
  refuses_job words cause line Line of asked (without_memory_for_words s) e same said = absurd cc
  refuses_job words cause line Line of asked (of_a_job job s t x f) e same said =
      let led : LedTo M (course_of job) s t (refused cause line) = led_to (refused cause line) (short_text cause line of) f e in
      record {
        readings = led.readings;
        line = line;
        was_read = led.was_read;
        contents_say = led.told;
        same = same;
        said = said;
        job = job;
        asked = asked;
        leads = led.gives;
      }

  module _ {O E : Type 0} {N : SinkModel O} {L : SinkModel E} where
    -- the clauses of a run, from what was done to the shelf and what the sinks took
    pub answers_run : {shelf after : F} {ending : Option Outcome} {out out_after : O} {err err_after : E} {result : Status} (words : List (List ℕ)) → FollowsJob M (job_of words) shelf ending after →
        Delivers N L out err result out_after err_after ending →
        IfSome (M.contents shelf) (λ files. RunAnswers (M.is_quiet shelf) (Rose (M.faults shelf) (M.faults after)) (Rose (N.faults out) (N.faults out_after)) (N.room out) (Tells L err err_after)
        (outcome_for words files) (N.taken out) (N.taken out_after) result)
    unfolding outcome_for
    answers_run {shelf = shelf} words f d = each_told (M.contents shelf) (λ files is. answers_told (of_job (job_of words) files) (job_ends files f is) (λ path e. job_rose f e) d)

    pub reports_run : {shelf after : F} {ending : Option Outcome} {out out_after : O} {err err_after : E} {result : Status} (words : List (List ℕ)) (verdict : ReportVerdict) (P : List OpenedFile → List ℕ → Type 0) →
        ((readings : List OpenedFile) (printed : List ℕ) → IsMeant words readings verdict printed → P readings printed) → FollowsJob M (job_of words) shelf ending after →
        Delivers N L out err result out_after err_after ending → result ≡ verdict_status verdict → Reports M N shelf after out out_after P
    reports_run {ending = ending} words verdict P to f d e = let w = wrote ending verdict d e in reports_job words verdict w.0 P refl f w.1 w.2 w.3 to

    pub refuses_run : {shelf after : F} {ending : Option Outcome} {out out_after : O} {err err_after : E} {result : Status} (words : List (List ℕ)) (cause : Cause) → IsOfText cause →
        FollowsJob M (job_of words) shelf ending after → Delivers N L out err result out_after err_after ending → result ≡ cause_status cause → RunRefuses M shelf after out out_after words cause (Tells L err err_after)
    refuses_run {ending = ending} {err = err} {err_after = err_after} words cause of f d e =
        let w = refused_so ending cause d e in refuses_job words cause w.0 (Tells L err err_after) of refl f w.1 w.2 w.3

    pub meaning_run : {shelf after : F} {ending : Option Outcome} {out out_after : O} {err err_after : E} {result : Status} (words : List (List ℕ)) (verdict : ReportVerdict) → FollowsJob M (job_of words) shelf ending after →
        Delivers N L out err result out_after err_after ending → result ≡ verdict_status verdict → Reports M N shelf after out out_after (λ readings printed. IsMeant words readings verdict printed)
    meaning_run words verdict f d e = reports_run words verdict (λ readings printed. IsMeant words readings verdict printed) (λ readings printed m. m) f d e

    -- each sentence follows from the meaning
    pub sentence_run : {shelf after : F} {ending : Option Outcome} {out out_after : O} {err err_after : E} {result : Status} (words : List (List ℕ)) (Sentence : List OpenedFile → ℕ → List ℕ → Type 0) →
        ((readings : List OpenedFile) (verdict : ReportVerdict) (printed : List ℕ) → IsMeant words readings verdict printed → Sentence readings (code_of (verdict_status verdict)) printed) → FollowsJob M (job_of words) shelf ending after →
        Delivers N L out err result out_after err_after ending → Prints M N shelf after out out_after result Sentence
    sentence_run {result = result} words Sentence so f d verdict e =
        reports_run words verdict (λ readings printed. Sentence readings (code_of result) printed) (λ readings printed m. subst (λ c. Sentence readings c printed) (ap code_of (sym e)) (so readings verdict printed m)) f d e

    pub completes_run : {shelf after : F} {ending : Option Outcome} {out out_after : O} {err err_after : E} {result : Status} (words : List (List ℕ)) → FollowsJob M (job_of words) shelf ending after →
        Delivers N L out err result out_after err_after ending →
        IfSome (M.contents shelf) (λ files. (Rose (M.faults shelf) (M.faults after) → ⊥) → (Rose (N.faults out) (N.faults out_after) → ⊥) → Completes result (outcome_for words files))
    completes_run {shelf = shelf} words f d = if_told (M.contents shelf) (λ files h. completes_told (outcome_for words files) h) (answers_run words f d)

    pub read_fault_run : {shelf after : F} {ending : Option Outcome} {out out_after : O} {err err_after : E} {result : Status} {job : Option Job} → FollowsJob M job shelf ending after →
        Delivers N L out err result out_after err_after ending → result ≡ status.ReadFault → Rose (M.faults shelf) (M.faults after)
    read_fault_run {ending = ending} f d e = let at : (path : List ℕ) × (ending ≡ Some (unread path)) = unread_at ending d e in job_rose f at.1

    pub words_run : {shelf after : F} {ending : Option Outcome} {out out_after : O} {err err_after : E} {result : Status} {job : Option Job} → FollowsJob M job shelf ending after →
        Delivers N L out err result out_after err_after ending → result ≡ status.Words → job ≡ None
    words_run (of_no_job s) d e = refl
    words_run (without_memory_for_words s) d e = refl
    words_run (of_a_job job s t x f) d e = absurd (no_words f (words_at x d e))

    pub no_job_run : {shelf after : F} {ending : Option Outcome} {out out_after : O} {err err_after : E} {result : Status} {job : Option Job} → FollowsJob M job shelf ending after →
        Delivers N L out err result out_after err_after ending → job ≡ None → (result ≡ status.Words) ⊎ (result ≡ status.Memory)
    no_job_run (of_no_job s) d e = inl (words_from d)
    no_job_run (without_memory_for_words s) d e = inr (memory_from d)
    no_job_run (of_a_job job s t x f) d e = absurd cc
