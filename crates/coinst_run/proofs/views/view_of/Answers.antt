use Rattle.coinst_run.specs.Index.{index_of}
use Rattle.coinst_run.proofs.views.view_of.Goals as goal

pub returns-in_ok-limit_stop-in-Err-clause-stop : goal.returns-in_ok-limit_stop-in-Err-clause-stop
returns-in_ok-limit_stop-in-Err-clause-stop c = c.in_ok-limit_stop-in-Err.ensures (index_of c.args.suite) c.args.hold c.in-Err.ensures.refused
