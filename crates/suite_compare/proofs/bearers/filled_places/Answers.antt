use Rattle.std.proofs.Common.{◌≡◌, ◌∙◌, arith, length, sym}
use Rattle.suite_compare.{proofs.Bearing.{filled_more, filled_none, filled_skip}}
use Rattle.suite_compare.proofs.bearers.filled_places.Goals as goal

pub loop-place-init : goal.loop-place-init
loop-place-init c = filled_none c.args.lists.now c.new-places.result.items c.new-places.ensures.items

pub loop-place-preserved-then-is_empty : goal.loop-place-preserved-then-is_empty
loop-place-preserved-then-is_empty c = filled_skip c.args.lists.now c.loop-place.place c.few_at.result.now c.loop-place.places.items c.few_at.ensures (sym c.is_empty.ensures ∙ c.if-is_empty.true) c.loop-place.invariant

pub loop-place-preserved : goal.loop-place-preserved
loop-place-preserved c = filled_more c.args.lists.now c.loop-place.place c.few_at.result.now c.loop-place.places.items c.push.new.self.items c.few_at.ensures (sym c.is_empty.ensures ∙ c.if-is_empty.false) c.in_ok-push.ensures.items c.loop-place.invariant

pub returns : goal.returns
returns c =
    let e : c.loop-place.place ≡ length c.args.lists.now = omega (arith, c.loop-place-test.false, c.loop-place.auto.place-end) in
    rw e at c.loop-place.invariant
