use Rattle.std.proofs.Common.{append-nil}
use Rattle.coinst_run.proofs.Telling.{tells_same}
use Rattle.coinst_run.proofs.deliver.tell_line.Goals as goal

pub returns : goal.returns
returns g c = tells_same g.E.Sink.model c.args.err.now c.tell.new.err _ c.args.line.now (append-nil c.args.line.now) c.tell.ensures
