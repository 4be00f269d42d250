use Rattle.std.proofs.Common.{◌-◌, arith}
use Rattle.clause_families.proofs.Families.{of_pool_item}
use Rattle.suite_part.proofs.Lefts.{clauses_order}
use Rattle.suite_part.proofs.rows.are_in_order.Goals as goal

pub slice-requires : goal.slice-requires
slice-requires c = of_pool_item c.args.pool.now c.args.ids.now (c.loop-place.place - 1) c.index-ids-place.result c.requires (omega arith) c.index-ids-place.is

pub slice-requires-in-loop-place : goal.slice-requires-in-loop-place
slice-requires-in-loop-place c = of_pool_item c.args.pool.now c.args.ids.now c.loop-place.place c.index-ids-place-in-loop-place.result c.requires (omega arith) c.index-ids-place-in-loop-place.is

pub returns : goal.returns
returns c = clauses_order c.args.pool.now c.args.ids.now (λ k l. c.loop-place.invariant k (omega arith))
