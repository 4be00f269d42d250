use Rattle.search_terms.proofs.Lists.{item_at}
use Rattle.refutation_check.proofs.Pairs.{pairs_more}
use Rattle.refutation_check.proofs.formula.add_conflicts.Goals as goal

pub loop-p-preserved : goal.loop-p-preserved
loop-p-preserved c =
    pairs_more c.args.conflicts.now c.loop-p.p c.as_slice.result.now c.args.all.now.items c.loop-p.all.items c.add_pairs.new.all.items c.loop-p-test.true
    (item_at c.args.conflicts.now c.loop-p.p c.as_slice.result.now c.index-conflicts-p.result c.as_slice.ensures c.index-conflicts-p.is) c.loop-p.invariant c.in_ok-add_pairs.ensures
