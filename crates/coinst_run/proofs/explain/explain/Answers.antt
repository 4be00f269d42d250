use Rattle.coinst_run.specs.{Ending.{ending_of}, Explain.{explain_answer}}
use Rattle.coinst_run.proofs.Follows.{settled_follows}
use Rattle.coinst_run.proofs.explain.explain.Goals as goal

pub returns : goal.returns
returns g c =
    c.in_ok-view.ensures.view (explain_answer c.args.goals.now c.args.settings.budget c.args.settings.clause_limit c.args.settings.hold) (ending_of c.explain_goals-report.result) c.view_at.new.shelf
    (settled_follows _ (ending_of c.explain_goals-report.result) c.view_at.new.shelf (rw (c.in_ok-view.ensures.limit, c.in_ok-view.ensures.hold) at c.explain_goals-report.ensures))
