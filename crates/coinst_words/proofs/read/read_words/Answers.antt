use Rattle.std.proofs.{Common.{◌∙◌, map, string_bytes, sym}, lemmas.Result.{IfErr-weaker, IfOk-weaker}}
use Rattle.coinst_words.proofs.{Entered.{job_is, no_job}, Parsing.{on_refusal}}
use Rattle.coinst_words.proofs.read.read_words.Goals as goal

pub returns-in-Some-clause-job : goal.returns-in-Some-clause-job
returns-in-Some-clause-job c =
    let is = job_is (map string_bytes c.args.words.now) c.in_ok-matches.matches c.in-Some.name.now c.in-Some.given.now c.in_ok-matches.ensures.said c.in-Some.ensures.name c.in-Some.ensures.rows in
    IfOk-weaker c.job_named.result _ _ (λ j e. sym is ∙ e) c.job_named.ensures.job

pub returns-in-Some-clause-refusal : goal.returns-in-Some-clause-refusal
returns-in-Some-clause-refusal c =
    let is = job_is (map string_bytes c.args.words.now) c.in_ok-matches.matches c.in-Some.name.now c.in-Some.given.now c.in_ok-matches.ensures.said c.in-Some.ensures.name c.in-Some.ensures.rows in
    IfErr-weaker c.job_named.result _ _ (λ w p. on_refusal _ _ w (λ e. sym is ∙ e) p) c.job_named.ensures.refusal

pub returns-clause-refusal : goal.returns-clause-refusal
returns-clause-refusal c = no_job (map string_bytes c.args.words.now) c.in_ok-matches.matches c.in_ok-matches.ensures.said c.in-None.ensures.name
