use Rattle.std.proofs.Common.{◌+◌, subst, sym, arith}
use Rattle.clause_flatten.proofs.Leaves.{IsWayDown, way_first, way_inside, way_left, way_right}
use Rattle.clause_flatten.proofs.least_tree.first_least.Goals as goal
use Rattle.clause_flatten.proofs.least_tree.first_least.Goals.{then-nodes-place, else-nodes-place}

pub overflow_mul-place : goal.overflow_mul-place
overflow_mul-place c = omega (arith, way_inside c.args.nodes.now c.args.depth c.loop-level._level c.loop-level.place c.requires.tree c.loop-level-test.true c.loop-level.invariant, c.requires.tree.size)

pub offset_bounds-nodes-place : goal.offset_bounds-nodes-place
offset_bounds-nodes-place c = omega (arith, way_inside c.args.nodes.now c.args.depth c.loop-level._level c.loop-level.place c.requires.tree c.loop-level-test.true c.loop-level.invariant, c.requires.tree.size)

pub bounds-nodes-place : goal.bounds-nodes-place
bounds-nodes-place c = omega (arith, way_inside c.args.nodes.now c.args.depth c.loop-level._level c.loop-level.place c.requires.tree c.loop-level-test.true c.loop-level.invariant, c.requires.tree.size)

pub overflow_add-place : goal.overflow_add-place
overflow_add-place c = omega (arith, way_inside c.args.nodes.now c.args.depth c.loop-level._level c.loop-level.place c.requires.tree c.loop-level-test.true c.loop-level.invariant, c.requires.tree.size)

pub loop-level-init : goal.loop-level-init
loop-level-init c = way_first c.args.nodes.now

pub loop-level-preserved : goal.loop-level-preserved
loop-level-preserved c =
    elim c.if-nodes-place.branch [
      | then-nodes-place w ↦ subst (IsWayDown c.args.nodes.now (c.loop-level._level + 1)) (sym w.place-is) (way_right c.args.nodes.now c.args.depth c.loop-level._level c.loop-level.place c.requires.tree c.loop-level-test.true c.loop-level.invariant w.if-nodes-place.true)
      | else-nodes-place w ↦ subst (IsWayDown c.args.nodes.now (c.loop-level._level + 1)) (sym w.place-is) (way_left c.args.nodes.now c.args.depth c.loop-level._level c.loop-level.place c.requires.tree c.loop-level-test.true c.loop-level.invariant w.if-nodes-place.false)
    ]
