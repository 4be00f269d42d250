use Rattle.listed.proofs.Lists.{item_in}
use Rattle.search_terms.proofs.Building.{rows_more}
use Rattle.search_terms.proofs.sentences.clause_sentences.Goals as goal

pub row-requires : goal.row-requires
row-requires c = c.requires.fit.of_pool c.index-rows-owner.result (item_in c.args.rows.now c.loop-owner.owner c.index-rows-owner.result c.loop-owner-test.true c.index-rows-owner.is)

pub loop-owner-preserved : goal.loop-owner-preserved
loop-owner-preserved c =
    rows_more c.args.pool.now c.args.rows.now c.row.result.now c.loop-owner.owner c.index-rows-owner.result c.loop-owner.all.items c.add_row.new.all.items c.loop-owner-test.true c.index-rows-owner.is c.row.ensures.lent c.loop-owner.invariant c.in_ok-add_row.ensures
