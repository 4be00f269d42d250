use Rattle.std.proofs.Common.{map}
use Rattle.std.specs.Prelude.{string_bytes}
use Rattle.coinst_run.specs.Ending.{ending_of}
use Rattle.claims.specs.Sentences.{CompareIsTrue, ExplainIsTrue, KernelIsSettled, KernelIsTrue, MigrateIsTrue, QueryIsTrue, StatusIsTrue, StoredQueryIsTrue}
use Rattle.coinst_run.proofs.{ExplainSentence.{explain_is_true}, MigrateSentence.{migrate_is_true}}
use Rattle.coinst_run.proofs.{QuerySentences.{kernel_is_settled, query_is_true, stored_query_is_true}, Sentences.{compare_is_true, kernel_is_true}}
use Rattle.coinst_run.proofs.StatusSentence.{status_is_true}
use Rattle.coinst_run.proofs.Runs.{answers_run, completes_run, cut_rose, meaning_run, no_job_run, read_fault_run, refuses_run, sentence_run, words_run}
use Rattle.coinst_run.proofs.top.run.Goals as goal

pub returns-clause-answers : goal.returns-clause-answers
returns-clause-answers g c = answers_run (map string_bytes c.args.words.now) c.answer_to-answer.ensures c.deliver.ensures

pub returns-clause-meaning : goal.returns-clause-meaning
returns-clause-meaning g c = λ verdict. meaning_run (map string_bytes c.args.words.now) verdict c.answer_to-answer.ensures c.deliver.ensures

pub returns-clause-kernel_is_true : goal.returns-clause-kernel_is_true
returns-clause-kernel_is_true g c = sentence_run (map string_bytes c.args.words.now) (KernelIsTrue (map string_bytes c.args.words.now)) (kernel_is_true (map string_bytes c.args.words.now)) c.answer_to-answer.ensures c.deliver.ensures

pub returns-clause-kernel_is_settled : goal.returns-clause-kernel_is_settled
returns-clause-kernel_is_settled g c = sentence_run (map string_bytes c.args.words.now) (KernelIsSettled (map string_bytes c.args.words.now)) (kernel_is_settled (map string_bytes c.args.words.now)) c.answer_to-answer.ensures c.deliver.ensures

pub returns-clause-query_is_true : goal.returns-clause-query_is_true
returns-clause-query_is_true g c = sentence_run (map string_bytes c.args.words.now) (QueryIsTrue (map string_bytes c.args.words.now)) (query_is_true (map string_bytes c.args.words.now)) c.answer_to-answer.ensures c.deliver.ensures

pub returns-clause-stored_query_is_true : goal.returns-clause-stored_query_is_true
returns-clause-stored_query_is_true g c = sentence_run (map string_bytes c.args.words.now) (StoredQueryIsTrue (map string_bytes c.args.words.now)) (stored_query_is_true (map string_bytes c.args.words.now)) c.answer_to-answer.ensures c.deliver.ensures

pub returns-clause-compare_is_true : goal.returns-clause-compare_is_true
returns-clause-compare_is_true g c = sentence_run (map string_bytes c.args.words.now) (CompareIsTrue (map string_bytes c.args.words.now)) (compare_is_true (map string_bytes c.args.words.now)) c.answer_to-answer.ensures c.deliver.ensures

pub returns-clause-explain_is_true : goal.returns-clause-explain_is_true
returns-clause-explain_is_true g c = sentence_run (map string_bytes c.args.words.now) (ExplainIsTrue (map string_bytes c.args.words.now)) (explain_is_true (map string_bytes c.args.words.now)) c.answer_to-answer.ensures c.deliver.ensures

pub returns-clause-status_is_true : goal.returns-clause-status_is_true
returns-clause-status_is_true g c = sentence_run (map string_bytes c.args.words.now) (StatusIsTrue (map string_bytes c.args.words.now)) (status_is_true (map string_bytes c.args.words.now)) c.answer_to-answer.ensures c.deliver.ensures

pub returns-clause-migrate_is_true : goal.returns-clause-migrate_is_true
returns-clause-migrate_is_true g c = sentence_run (map string_bytes c.args.words.now) (MigrateIsTrue (map string_bytes c.args.words.now)) (migrate_is_true (map string_bytes c.args.words.now)) c.answer_to-answer.ensures c.deliver.ensures

pub returns-clause-refuses : goal.returns-clause-refuses
returns-clause-refuses g c = λ cause of. refuses_run (map string_bytes c.args.words.now) cause of c.answer_to-answer.ensures c.deliver.ensures

pub returns-clause-completes : goal.returns-clause-completes
returns-clause-completes g c = completes_run (map string_bytes c.args.words.now) c.answer_to-answer.ensures c.deliver.ensures

pub returns-clause-runs : goal.returns-clause-runs
returns-clause-runs g c = (ending_of c.answer_to-answer.result, c.answer_to-answer.ensures, c.deliver.ensures)

pub returns-clause-words : goal.returns-clause-words
returns-clause-words g c = words_run c.answer_to-answer.ensures c.deliver.ensures

pub returns-clause-no_job : goal.returns-clause-no_job
returns-clause-no_job g c = no_job_run c.answer_to-answer.ensures c.deliver.ensures

pub returns-clause-read_fault : goal.returns-clause-read_fault
returns-clause-read_fault g c = read_fault_run c.answer_to-answer.ensures c.deliver.ensures

pub returns-clause-write_fault : goal.returns-clause-write_fault
returns-clause-write_fault g c = cut_rose (ending_of c.answer_to-answer.result) c.deliver.ensures
