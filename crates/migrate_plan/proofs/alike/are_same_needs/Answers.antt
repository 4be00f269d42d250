use Rattle.std.proofs.Common.{ap, sym, ◌∙◌, ◌<◌, length, arith}
use Rattle.std.specs.Cmp.Lexicographic.{pointwise}
use Rattle.migrate_plan.specs.Differing.{is_same_atom}
use Rattle.migrate_plan.proofs.Pairwise.{pair_fails, pair_more}
use Rattle.migrate_plan.proofs.alike.are_same_needs.Goals as goal

pub returns-then-not-are_same_atoms : goal.returns-then-not-are_same_atoms
returns-then-not-are_same_atoms c =
    pair_fails (pointwise is_same_atom) c.args.one.now c.args.other.now c.loop-place.place c.index-one-place.result c.index-other-place.result c.loop-place-test.true c.index-one-place.is c.index-other-place.is
    (ap (λ z. pointwise is_same_atom z c.index-other-place.result) (sym c.as_slice.ensures) ∙ ap (pointwise is_same_atom c.as_slice.result.now) (sym c.as_slice-in-loop-place.ensures) ∙ sym c.are_same_atoms.ensures ∙ c.if-not-are_same_atoms.true)

pub loop-place-preserved : goal.loop-place-preserved
loop-place-preserved c =
    let more : c.loop-place.place < length c.args.other.now = omega arith in
    pair_more (pointwise is_same_atom) c.args.one.now c.args.other.now c.loop-place.place c.index-one-place.result c.index-other-place.result c.loop-place-test.true more c.index-one-place.is c.index-other-place.is
    (ap (λ z. pointwise is_same_atom z c.index-other-place.result) (sym c.as_slice.ensures) ∙ ap (pointwise is_same_atom c.as_slice.result.now) (sym c.as_slice-in-loop-place.ensures) ∙ sym c.are_same_atoms.ensures ∙ c.if-not-are_same_atoms.false) c.loop-place.invariant
