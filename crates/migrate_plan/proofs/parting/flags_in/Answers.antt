use Rattle.std.proofs.Common.{◌++◌, arith, false, get_or, refl}
use Rattle.std.specs.List.{items_where_true}
use Rattle.repo_model.proofs.Selected.{chosen_all, chosen_next, left_out}
use Rattle.migrate_plan.proofs.BothMixes.{whatever_else}
use Rattle.migrate_plan.proofs.parting.flags_in.Goals as goal

pub loop-place-preserved : goal.loop-place-preserved
loop-place-preserved c =
    let added = c.args.added.now in
    let kept = c.args.kept.now in
    let item = get_or kept c.loop-place.place false in
    chosen_next added kept c.loop-place.place item c.requires c.loop-place-test.true (whatever_else kept c.loop-place.place false item c.loop-place-test.true) c.loop-place.flags.items c.push.new.self.items
    (c.args.left.now ++ items_where_true added kept) item c.if-not-is_one.false c.loop-place.invariant c.in_ok-push.ensures.items refl

pub loop-place-preserved-then-not-is_one : goal.loop-place-preserved-then-not-is_one
loop-place-preserved-then-not-is_one c =
    let added = c.args.added.now in
    let kept = c.args.kept.now in
    let item = get_or kept c.loop-place.place false in
    left_out added kept c.loop-place.place item c.requires c.loop-place-test.true (whatever_else kept c.loop-place.place false item c.loop-place-test.true) c.loop-place.flags.items (c.args.left.now ++ items_where_true added kept)
    c.if-not-is_one.true c.loop-place.invariant

pub returns : goal.returns
returns c =
    let added = c.args.added.now in
    let kept = c.args.kept.now in
    chosen_all added kept c.loop-place.place c.requires (omega (arith, c.loop-place-test.false)) c.loop-place.flags.items (c.args.left.now ++ items_where_true added kept) c.loop-place.invariant
