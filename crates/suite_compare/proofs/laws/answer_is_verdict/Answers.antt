use Rattle.std.{proofs.Common.{ap}, specs.Prelude.{is_some}}
use Rattle.clause_solver.specs.declared.outcomes.Verdict.TheVariants as verdict
use Rattle.suite_compare.{specs.Asking.{asked_tree}, specs.declared.answers.Answer.TheVariants.{Yes, No, Spent}, specs.Laws.{AnswerIsVerdict}, proofs.Judged.{verdict_told}}
use Rattle.suite_compare.proofs.laws.answer_is_verdict.Goals as goal

told : AnswerIsVerdict
told limit hold home stanzas goals budget (Yes install classes) w = verdict_told budget (asked_tree limit hold home stanzas goals) verdict.Yes (ap is_some w.found, w.within)
told limit hold home stanzas goals budget (No log) w = verdict_told budget (asked_tree limit hold home stanzas goals) verdict.No (w.0, w.1)
told limit hold home stanzas goals budget (Spent failed) w = verdict_told budget (asked_tree limit hold home stanzas goals) verdict.Spent w.0

pub returns : goal.returns
returns c = told
