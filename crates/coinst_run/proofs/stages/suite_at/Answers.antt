use Rattle.std.proofs.lemmas.Result.{IfOk-weaker, IfErr-weaker}
use Rattle.coinst_run.specs.{Ending.{stop_ending}, Index.{index_of}}
use Rattle.coinst_run.proofs.Follows.{index_reached, index_refused}
use Rattle.coinst_run.proofs.stages.suite_at.Goals as goal

pub returns-clause-suite : goal.returns-clause-suite
returns-clause-suite g c =
    let fed = c.in_ok-feed.ensures.fed in
    IfOk-weaker c.finished_index.result _ _ (λ suite is.
    index_reached c.args.path.now fed.text (index_of suite) c.args.shelf.now c.feed_at.new.shelf fed.whole (is fed.text fed.stands)) c.finished_index.ensures.suite

pub returns-clause-named : goal.returns-clause-named
returns-clause-named g c = let fed = c.in_ok-feed.ensures.fed in IfOk-weaker c.finished_index.result _ _ (λ suite named. named fed.text fed.stands) c.finished_index.ensures.named

pub returns-clause-stop : goal.returns-clause-stop
returns-clause-stop g c =
    let fed = c.in_ok-feed.ensures.fed in
    IfErr-weaker c.finished_index.result _ _ (λ stop is next.
    index_refused c.args.path.now fed.text next (stop_ending stop) c.args.shelf.now c.feed_at.new.shelf fed.whole (is fed.text fed.stands)) c.finished_index.ensures.stop
