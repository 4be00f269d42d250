use Rattle.std.proofs.{Common.{◌∙◌}, lemmas.Result.{err_from_is_err_and}}
use Rattle.coinst_run.proofs.{Follows.{settled_follows, text_passed}, Migrating.{suite_checked}}
use Rattle.coinst_run.proofs.stages.measured_at.Goals as goal

pub returns-clause-index : goal.returns-clause-index
returns-clause-index g c =
    let fed = c.in_ok-feed.ensures.fed in
    let suite = c.in_ok-suite.suite in
    record {
      text = fed.text;
      whole = fed.whole;
      held = record {
        suite_is = suite_checked c.args.path.now fed.text suite.home suite.packages (c.in_ok-suite.ensures.suite fed.text fed.stands);
        length_is = c.taken-length.ensures ∙ fed.taken;
      };
    }

pub returns-in_err-feed-clause-stop : goal.returns-in_err-feed-clause-stop
returns-in_err-feed-clause-stop g c =
    let p = err_from_is_err_and c.from_residual.result c.from_residual.ensures.1 in rw (p.1, p.2) (λ next settles. c.in_err-feed.ensures.stop next)

-- the text has a fault, or no memory was found
pub returns-in_err-suite-clause-stop : goal.returns-in_err-suite-clause-stop
returns-in_err-suite-clause-stop g c =
    let fed = c.in_ok-feed.ensures.fed in
    let p = err_from_is_err_and c.from_residual-in_err-suite.result c.from_residual-in_err-suite.ensures.1 in rw (p.1, p.2)
    (λ next settles.
    text_passed c.args.path.now fed.text next c.args.shelf.now c.feed_at.new.shelf fed.whole _ _
    (settled_follows (next fed.text) _ _ (settles fed.text (c.in_err-suite.ensures.stop fed.text fed.stands))))
