use Rattle.std.proofs.Common.{◌<◌, subst, sym}
use Rattle.row_book.specs.Uses.{lists_in}
use Rattle.row_book.proofs.Holders.{there_more}
use Rattle.listed.proofs.Lists.{item_in}
use Rattle.row_book.proofs.clause_table.enter_all.Goals as goal

pub enter-requires-clause-id : goal.enter-requires-clause-id
enter-requires-clause-id c = c.requires.of_pool c.id-item.result (item_in c.args.ids.now c.loop-id.id-index c.id-item.result c.loop-id-test.true c.id-item.is)

pub enter-requires-clause-numbers : goal.enter-requires-clause-numbers
enter-requires-clause-numbers c n i =
    subst (λ size. n < size) (sym c.loop-id.auto.clauses)
    (c.requires.numbers c.id-item.result (item_in c.args.ids.now c.loop-id.id-index c.id-item.result c.loop-id-test.true c.id-item.is) n i)

pub loop-id-preserved : goal.loop-id-preserved
loop-id-preserved c = record {
  entered = there_more c.args.ids.now c.loop-id.id-index c.id-item.result c.args.number (lists_in c.loop-id.users) (lists_in c.enter.new.users) c.loop-id-test.true c.id-item.is
      c.enter.ensures.users c.in_ok-enter.ensures.entered c.loop-id.invariant.entered;
  users = λ n m i. c.enter.ensures.users n m (c.loop-id.invariant.users n m i);
  lists = λ f. c.enter.ensures.lists (c.loop-id.invariant.lists f);
}
