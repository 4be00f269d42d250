use Rattle.std.proofs.Common.{◌<◌, length, arith, [], refl}
use Rattle.clause_solver.specs.Marking.{set_of_trail}
use Rattle.clause_solver.proofs.{Drains.{item_from, read_at}, Openings.{swept_more}}
use Rattle.clause_solver.proofs.nodes.least_open.Goals as goal

pub lesser_open-least-requires : goal.lesser_open-least-requires
lesser_open-least-requires c =
    let same_place = c.place.ensures in
    let lt : c.place.result < length c.args.uses.now = search arith in
    let row = item_from c.args.uses.now c.place.result c.place.result [] c.as_slice.result.now c.index-uses-place.result lt refl c.as_slice.ensures c.index-uses-place.is in
    rw row (c.requires.table.within c.place.result [] lt)

pub loop-l-preserved : goal.loop-l-preserved
loop-l-preserved c =
    let items = c.args.literals.now in
    let same_place = c.place.ensures in
    let lt : c.place.result < length c.args.uses.now = search arith in
    swept_more (set_of_trail c.args.trail.now.1) c.args.own.now c.args.uses.now items c.args.before c.loop-l.least c.lesser_open-least.result c.loop-l.l-index _ c.as_slice.result.now c.loop-l-test.true
    (read_at items items c.loop-l.l-index _ refl c.loop-l-test.true)
    (item_from c.args.uses.now c.place.result _ [] c.as_slice.result.now c.index-uses-place.result lt c.place.ensures c.as_slice.ensures c.index-uses-place.is)
    c.lesser_open-least.ensures c.loop-l.invariant
