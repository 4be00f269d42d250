use Rattle.std.proofs.Common.{arith}
use Rattle.listed.proofs.Lists.{In_at}
use Rattle.row_book.proofs.Pairs.{lists_step}
use Rattle.row_book.proofs.pairing.enter_pairs.Goals as goal

pub enter_pair-requires-clause-ordered : goal.enter_pair-requires-clause-ordered
enter_pair-requires-clause-ordered c = c.requires.fit.ordered _ (In_at c.args.pairs.now c.loop-pair.pair-index _ (omega arith))

pub enter_pair-requires-clause-below : goal.enter_pair-requires-clause-below
enter_pair-requires-clause-below c =
    rw c.loop-pair.invariant.count (c.requires.fit.below _ (In_at c.args.pairs.now c.loop-pair.pair-index _ (omega arith)))

pub loop-pair-preserved : goal.loop-pair-preserved
loop-pair-preserved c =
    lists_step c.loop-pair.table.items c.enter_pair.new.table.items _ c.args.pairs.now c.loop-pair.pair-index _ (omega arith) c.requires.rising c.requires.fit
    c.loop-pair.invariant c.in_ok-enter_pair.ensures
