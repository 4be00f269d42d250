use Rattle.std.proofs.{Common.{◌∙◌, ap, subst}, lemmas.List.{take_all}}
use Rattle.clause_pool.proofs.Interned.{kept_along}
use Rattle.clause_pool.specs.Interned.{OfPool, clauses_at}
use Rattle.clause_flatten.proofs.PoolRows.{in_pool_fit, in_pool_more, lent_in_order, lent_of_pool, lent_there}
use Rattle.clause_flatten.proofs.flattening.put_rows.Goals as goal

pub put_row-requires-clause-of_pool : goal.put_row-requires-clause-of_pool
put_row-requires-clause-of_pool c = lent_of_pool c.args.pool.now c.loop-list.pool c.args.lists.now c.loop-list.list-index c.list-item.result c.as_slice.result.now c.requires c.loop-list.invariant.kept c.loop-list-test.true c.list-item.is c.as_slice.ensures

pub put_row-requires-clause-in_order : goal.put_row-requires-clause-in_order
put_row-requires-clause-in_order c = lent_in_order c.args.pool.now c.loop-list.pool c.args.lists.now c.loop-list.list-index c.list-item.result c.as_slice.result.now c.requires c.loop-list.invariant.kept c.loop-list-test.true c.list-item.is c.as_slice.ensures

pub returns-in_err-push-clause-kept : goal.returns-in_err-push-clause-kept
returns-in_err-push-clause-kept c = kept_along c.args.pool.now c.loop-list.pool c.put_row.new.pool c.loop-list.invariant.kept c.put_row.ensures.kept

pub loop-list-preserved : goal.loop-list-preserved
loop-list-preserved c =
    in_pool_more c.args.pool.now c.loop-list.pool c.put_row.new.pool c.args.lists.now c.loop-list.list-index c.loop-list.rows.items c.push.new.self.items c.list-item.result c.in_ok-row.row
    (c.loop-list.invariant.kept.sound c.requires.is_pool) c.loop-list-test.true c.list-item.is
    (subst (OfPool c.args.pool.now) c.as_slice.ensures (lent_there c.args.pool.now c.loop-list.pool c.args.lists.now c.loop-list.list-index c.list-item.result c.as_slice.result.now c.requires c.loop-list.invariant.kept c.loop-list-test.true c.list-item.is c.as_slice.ensures))
    c.loop-list.invariant c.put_row.ensures.kept (c.in_ok-row.ensures.ok ∙ ap (clauses_at c.loop-list.pool) c.as_slice.ensures) c.in_ok-row.ensures.of_pool c.in_ok-push.ensures.items

pub returns-clause-fit : goal.returns-clause-fit
returns-clause-fit c =
    in_pool_fit c.args.pool.now c.loop-list.pool c.args.lists.now c.loop-list.list-index c.loop-list.rows.items
    (take_all c.loop-list.list-index c.args.lists.now c.loop-list-test.false) c.loop-list.invariant c.requires

pub returns-in_err-row-clause-kept : goal.returns-in_err-row-clause-kept
returns-in_err-row-clause-kept c = kept_along c.args.pool.now c.loop-list.pool c.put_row.new.pool c.loop-list.invariant.kept c.put_row.ensures.kept
