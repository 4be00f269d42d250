use Rattle.std.proofs.Common.{map, ◌∙◌, sym}
use Rattle.std.specs.Prelude.{string_bytes}
use Rattle.claims.specs.Sentences.{CompareIsTrue, ExplainIsTrue, KernelIsSettled, KernelIsTrue, MigrateIsTrue, QueryIsTrue, StatusIsTrue, StoredQueryIsTrue}
use Rattle.coinst_run.specs.Status.{verdict_status}
use Rattle.coinst_run.proofs.Noted.{noted_so, notes_so, one_status}
use Rattle.coinst_run.proofs.streams.run_streams.Goals as goal

-- the status is that of the code, and what the calls of the system were noted to give is what the calls of the shelf and the sink gave
pub returns-clause-meaning : goal.returns-clause-meaning
returns-clause-meaning g c = λ verdict is.
    noted_so (λ s. s.history.readings) (λ s. s.history.bytes) (λ s t path h. h.1) (λ s t asked bytes h. h.1) (λ s t piece n h. h.1)
    (c.run-status.ensures.meaning verdict (one_status c.run-status.result (verdict_status verdict) (sym (c.from.ensures ∙ c.code.ensures) ∙ is)))

pub returns-clause-kernel_is_true : goal.returns-clause-kernel_is_true
returns-clause-kernel_is_true g c =
    notes_so (λ s. s.history.readings) (λ s. s.history.bytes) (λ s t path h. h.1) (λ s t asked bytes h. h.1) (λ s t piece n h. h.1) (KernelIsTrue (map string_bytes c.args.words.now)) c.run-status.result _ (c.from.ensures ∙ c.code.ensures) c.run-status.ensures.kernel_is_true

pub returns-clause-kernel_is_settled : goal.returns-clause-kernel_is_settled
returns-clause-kernel_is_settled g c =
    notes_so (λ s. s.history.readings) (λ s. s.history.bytes) (λ s t path h. h.1) (λ s t asked bytes h. h.1) (λ s t piece n h. h.1) (KernelIsSettled (map string_bytes c.args.words.now)) c.run-status.result _ (c.from.ensures ∙ c.code.ensures) c.run-status.ensures.kernel_is_settled

pub returns-clause-query_is_true : goal.returns-clause-query_is_true
returns-clause-query_is_true g c =
    notes_so (λ s. s.history.readings) (λ s. s.history.bytes) (λ s t path h. h.1) (λ s t asked bytes h. h.1) (λ s t piece n h. h.1) (QueryIsTrue (map string_bytes c.args.words.now)) c.run-status.result _ (c.from.ensures ∙ c.code.ensures) c.run-status.ensures.query_is_true

pub returns-clause-stored_query_is_true : goal.returns-clause-stored_query_is_true
returns-clause-stored_query_is_true g c =
    notes_so (λ s. s.history.readings) (λ s. s.history.bytes) (λ s t path h. h.1) (λ s t asked bytes h. h.1) (λ s t piece n h. h.1) (StoredQueryIsTrue (map string_bytes c.args.words.now)) c.run-status.result _ (c.from.ensures ∙ c.code.ensures) c.run-status.ensures.stored_query_is_true

pub returns-clause-compare_is_true : goal.returns-clause-compare_is_true
returns-clause-compare_is_true g c =
    notes_so (λ s. s.history.readings) (λ s. s.history.bytes) (λ s t path h. h.1) (λ s t asked bytes h. h.1) (λ s t piece n h. h.1) (CompareIsTrue (map string_bytes c.args.words.now)) c.run-status.result _ (c.from.ensures ∙ c.code.ensures) c.run-status.ensures.compare_is_true

pub returns-clause-explain_is_true : goal.returns-clause-explain_is_true
returns-clause-explain_is_true g c =
    notes_so (λ s. s.history.readings) (λ s. s.history.bytes) (λ s t path h. h.1) (λ s t asked bytes h. h.1) (λ s t piece n h. h.1) (ExplainIsTrue (map string_bytes c.args.words.now)) c.run-status.result _ (c.from.ensures ∙ c.code.ensures) c.run-status.ensures.explain_is_true

pub returns-clause-status_is_true : goal.returns-clause-status_is_true
returns-clause-status_is_true g c =
    notes_so (λ s. s.history.readings) (λ s. s.history.bytes) (λ s t path h. h.1) (λ s t asked bytes h. h.1) (λ s t piece n h. h.1) (StatusIsTrue (map string_bytes c.args.words.now)) c.run-status.result _ (c.from.ensures ∙ c.code.ensures) c.run-status.ensures.status_is_true

pub returns-clause-migrate_is_true : goal.returns-clause-migrate_is_true
returns-clause-migrate_is_true g c =
    notes_so (λ s. s.history.readings) (λ s. s.history.bytes) (λ s t path h. h.1) (λ s t asked bytes h. h.1) (λ s t piece n h. h.1) (MigrateIsTrue (map string_bytes c.args.words.now)) c.run-status.result _ (c.from.ensures ∙ c.code.ensures) c.run-status.ensures.migrate_is_true

pub returns-clause-runs : goal.returns-clause-runs
returns-clause-runs g c = (c.run-status.result, c.run-status.ensures.runs.0, c.run-status.ensures.runs.1, c.run-status.ensures.runs.2, c.from.ensures ∙ c.code.ensures)
