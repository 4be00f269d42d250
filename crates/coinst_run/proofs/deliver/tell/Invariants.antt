use Rattle.coinst_run.proofs.Telling.{HasTold}
use Rattle.coinst_run.proofs.deliver.tell.Given as goal

abbrev pub invariant-loop-piece : goal.invariant-loop-piece
invariant-loop-piece g l = HasTold g.E.Sink.model l.fn.err l.err l.pieces l.piece-index
