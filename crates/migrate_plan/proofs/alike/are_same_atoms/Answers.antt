use Rattle.std.proofs.Common.{sym, ◌∙◌, ◌<◌, length, arith}
use Rattle.migrate_plan.specs.Differing.{is_same_atom}
use Rattle.migrate_plan.proofs.Pairwise.{pair_fails, pair_more}
use Rattle.migrate_plan.proofs.alike.are_same_atoms.Goals as goal

pub returns-then-not-is_same_atom : goal.returns-then-not-is_same_atom
returns-then-not-is_same_atom c =
    pair_fails is_same_atom c.args.one.now c.args.other.now c.loop-place.place c.index-one-place.result c.index-other-place.result c.loop-place-test.true c.index-one-place.is c.index-other-place.is
    (sym c.is_same_atom.ensures ∙ c.if-not-is_same_atom.true)

pub loop-place-preserved : goal.loop-place-preserved
loop-place-preserved c =
    let more : c.loop-place.place < length c.args.other.now = omega arith in
    pair_more is_same_atom c.args.one.now c.args.other.now c.loop-place.place c.index-one-place.result c.index-other-place.result c.loop-place-test.true more c.index-one-place.is c.index-other-place.is
    (sym c.is_same_atom.ensures ∙ c.if-not-is_same_atom.false) c.loop-place.invariant
