use Rattle.coinst_run.specs.{Ending.{ending_of}, Query.{query_answer}}
use Rattle.coinst_run.proofs.Follows.{settled_follows}
use Rattle.coinst_run.proofs.query.query.Goals as goal

pub returns : goal.returns
returns g c =
    c.in_ok-view.ensures.view (query_answer c.args.goals.now c.args.settings.budget c.args.settings.clause_limit c.args.settings.hold) (ending_of c.goals_report-report.result) c.view_at.new.shelf
    (settled_follows _ (ending_of c.goals_report-report.result) c.view_at.new.shelf (rw (c.in_ok-view.ensures.limit, c.in_ok-view.ensures.hold) at c.goals_report-report.ensures))
