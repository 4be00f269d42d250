use Rattle.std.proofs.Common.{arith}
use Rattle.byte_flow.specs.Transfer.{written_of}
use Rattle.coinst_run.proofs.Telling.{told_front, told_more, told_none, told_whole}
use Rattle.coinst_run.proofs.deliver.tell.Goals as goal

pub loop-piece-init : goal.loop-piece-init
loop-piece-init g c = told_none g.E.Sink.model c.args.err.now c.args.pieces.now

pub loop-piece-preserved : goal.loop-piece-preserved
loop-piece-preserved g c =
    told_more g.E.Sink.model c.args.err.now c.loop-piece.err c.write_all.new.sink c.args.pieces.now c.loop-piece.piece-index _
    c.loop-piece-test.true c.loop-piece.invariant c.in-Ok.ensures.ok c.write_all.ensures.cause.later c.in-Ok.ensures.calls

pub returns : goal.returns
returns g c = told_whole g.E.Sink.model c.args.err.now c.loop-piece.err c.args.pieces.now c.loop-piece.piece-index (omega arith) c.loop-piece.invariant

pub returns-in-Err-Failed : goal.returns-in-Err-Failed
returns-in-Err-Failed g c =
    told_front g.E.Sink.model c.args.err.now c.loop-piece.err c.write_all.new.sink c.args.pieces.now c.loop-piece.piece-index (written_of c.in-Err-Failed.field-0) _
    c.loop-piece-test.true c.loop-piece.invariant c.in-Err-Failed.ensures.short c.in-Err-Failed.ensures.err c.in-Err-Failed.ensures.cause.failed c.in-Err-Failed.ensures.calls
