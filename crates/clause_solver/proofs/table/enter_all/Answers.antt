use Rattle.std.proofs.Common.{◌≡◌, length, arith}
use Rattle.clause_solver.proofs.{Running.{item_at}, Building.{table_more, table_all}}
use Rattle.clause_solver.proofs.table.enter_all.Goals as goal

pub loop-k-preserved : goal.loop-k-preserved
loop-k-preserved c =
    table_more c.args.classes c.loop-k.k c.loop-k.uses c.enter.new.uses c.args.own.now c.as_slice.result.now c.loop-k-test.true
    (item_at c.args.own.now c.loop-k.k c.as_slice.result.now c.index-own-k.result c.as_slice.ensures c.index-own-k.is) c.in_ok-enter.ensures c.loop-k.invariant

pub returns : goal.returns
returns c =
    let e : c.loop-k.k ≡ length c.args.own.now = omega (arith, c.loop-k-test.false, c.loop-k.auto.k-end) in
    table_all c.args.classes c.loop-k.k c.loop-k.uses c.args.own.now e c.loop-k.invariant
