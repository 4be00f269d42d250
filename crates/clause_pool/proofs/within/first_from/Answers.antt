use Rattle.std.proofs.Common.{◌-◌, length, arith}
use Rattle.clause_pool.proofs.Groups.{above_at, below_at}
use Rattle.listed.proofs.Lists.{item_in}
use Rattle.clause_pool.proofs.within.first_from.Goals as goal

pub goes_on_below-requires : goal.goes_on_below-requires
goes_on_below-requires c = c.requires.group c.index-group-0.result (item_in c.args.group.now 0 c.index-group-0.result (omega arith) c.index-group-0.is)

pub goes_on_below-requires-2 : goal.goes_on_below-requires-2
goes_on_below-requires-2 c = c.requires.group c.index-group-size.result (item_in c.args.group.now (length c.args.group.now - 1) c.index-group-size.result (omega arith) c.index-group-size.is)

-- none is below where the first is not
pub returns-then-not-goes_on_below-clause-behind : goal.returns-then-not-goes_on_below-clause-behind
returns-then-not-goes_on_below-clause-behind c =
    above_at c.args.pool.now c.args.depth c.args.group.now c.requires.order c.args.number 0 c.index-group-0.result (omega arith) c.index-group-0.is c.if-not-goes_on_below.ensures.not_below

-- all are below where the last is
pub returns-then-goes_on_below-clause-before : goal.returns-then-goes_on_below-clause-before
returns-then-goes_on_below-clause-before c = λ k l.
    below_at c.args.pool.now c.args.depth c.args.group.now c.requires.order c.args.number (length c.args.group.now - 1) c.index-group-size.result (omega arith) c.index-group-size.is c.if-goes_on_below.ensures.below
    k (omega arith)
