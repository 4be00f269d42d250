use Rattle.std.proofs.Common.{sym, arith}
use Rattle.std.specs.Option.{option_map}
use Rattle.clause_pool.specs.{Interned.{clause_at}, Within.{rest_within}}
use Rattle.clause_pool.proofs.Groups.{none_places}
use Rattle.listed.proofs.Lists.{item_in}
use Rattle.clause_pool.proofs.within.any_within.Goals as goal

pub is_within-requires-clause-id : goal.is_within-requires-clause-id
is_within-requires-clause-id c = c.requires.group c.id-item.result (item_in c.args.group.now c.loop-id.id-index c.id-item.result (omega arith) c.id-item.is)

pub is_within-requires-clause-deep : goal.is_within-requires-clause-deep
is_within-requires-clause-deep c = c.requires.deep c.id-item.result (item_in c.args.group.now c.loop-id.id-index c.id-item.result (omega arith) c.id-item.is)

pub returns : goal.returns
returns c =
    sym (none_places (rest_within c.args.pool.now (option_map (clause_at c.args.pool.now) c.args.but.now) c.args.depth c.args.wanted.now) c.args.group.now
    (λ k l. c.loop-id.invariant k (omega arith)))
