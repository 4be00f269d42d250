use Rattle.std.proofs.Common.{◌≡◌, length, arith, refl}
use Rattle.listed.proofs.Lists.{In_at}
use Rattle.suite_compare.proofs.Numbered.{paired_from}
use Rattle.suite_compare.proofs.kinds.kind_pairs_of.Goals as goal

pub loop-place-init : goal.loop-place-init
loop-place-init c = c.new-numbering.ensures _

pub loop-place-preserved : goal.loop-place-preserved
loop-place-preserved c = c.in_ok-put.ensures _ c.loop-place.place refl c.loop-place.invariant

pub numbers_at-requires : goal.numbers_at-requires
numbers_at-requires c = λ i l. rw c.deref.ensures.value (let b = c.loop-place.invariant.below _ (In_at c.loop-place.numbering.firsts.items i 0 (rw c.deref.ensures.value at l)) in omega (arith, b, c.requires, c.loop-place-test.false, c.loop-place.auto.place-end))

pub numbers_at-requires-2 : goal.numbers_at-requires-2
numbers_at-requires-2 c = λ i l. rw c.deref-2.ensures.value (let b = c.loop-place.invariant.below _ (In_at c.loop-place.numbering.firsts.items i 0 (rw c.deref-2.ensures.value at l)) in omega (arith, b, c.requires, c.loop-place-test.false, c.loop-place.auto.place-end))

pub returns : goal.returns
returns c =
    let e : c.loop-place.place ≡ length c.args.old_of.now = omega (arith, c.loop-place-test.false, c.loop-place.auto.place-end) in
    paired_from c.args.old_of.now c.args.new_of.now c.in_ok-old.old.items c.in_ok-new.new.items _ _ _ c.requires (rw c.deref.ensures.value at c.in_ok-old.ensures) (rw c.deref-2.ensures.value at c.in_ok-new.ensures) (rw e at c.loop-place.invariant)
