use Rattle.std.proofs.Common.{sym, ◌∙◌, ◌<◌, length, arith}
use Rattle.migrate_plan.specs.Differing.{is_same_provide}
use Rattle.migrate_plan.proofs.Pairwise.{pair_fails, pair_more}
use Rattle.migrate_plan.proofs.alike.are_same_provides.Goals as goal

pub returns-then-not-is_same_provide : goal.returns-then-not-is_same_provide
returns-then-not-is_same_provide c =
    pair_fails is_same_provide c.args.one.now c.args.other.now c.loop-place.place c.index-one-place.result c.index-other-place.result c.loop-place-test.true c.index-one-place.is c.index-other-place.is
    (sym c.is_same_provide.ensures ∙ c.if-not-is_same_provide.true)

pub loop-place-preserved : goal.loop-place-preserved
loop-place-preserved c =
    let more : c.loop-place.place < length c.args.other.now = omega arith in
    pair_more is_same_provide c.args.one.now c.args.other.now c.loop-place.place c.index-one-place.result c.index-other-place.result c.loop-place-test.true more c.index-one-place.is c.index-other-place.is
    (sym c.is_same_provide.ensures ∙ c.if-not-is_same_provide.false) c.loop-place.invariant
