use Rattle.coinst_run.specs.Ending.{stop_ending}
use Rattle.coinst_run.proofs.Follows.{stops_reading}
use Rattle.coinst_run.proofs.stages.text_at.Goals as goal

pub returns-in-Err-clause-stop : goal.returns-in-Err-clause-stop
returns-in-Err-clause-stop g c = λ next.
    let is = c.in-Err.ensures in
    stops_reading c.args.path.now next c.args.shelf.now c.read_file.new.shelf c.in-Err.error (stop_ending c.unread.result) is.calls is.failed is.quiet is.too_long is.taken c.unread.ensures
