use Rattle.std.{proofs.Common.{◌≡◌, [], length, arith, sym, ◌∙◌}, proofs.lemmas.List.{get_or_read}}
use Rattle.listed.proofs.Lists.{In_at}
use Rattle.suite_compare.proofs.Numbered.{kinds_from}
use Rattle.suite_compare.proofs.kinds.kinds_of.Goals as goal

pub loop-list-init : goal.loop-list-init
loop-list-init c = c.new-numbering.ensures _

pub loop-list-preserved : goal.loop-list-preserved
loop-list-preserved c = c.in_ok-put.ensures _ c.loop-list.list-index
    (sym (c.deref.ensures.value ∙ c.in_ok-put_key.ensures ∙ c.as_slice.ensures ∙ get_or_read c.args.lists.now c.loop-list.list-index c.list-item.result c.loop-list-test.true c.list-item.is [])) c.loop-list.invariant

pub lists_at-requires : goal.lists_at-requires
lists_at-requires c = λ i l. rw c.deref-2.ensures.value (let b = c.loop-list.invariant.below _ (In_at c.loop-list.numbering.firsts.items i 0 (rw c.deref-2.ensures.value at l)) in omega (arith, b, c.loop-list-test.false, c.loop-list.auto.list-index-end))

pub returns : goal.returns
returns c =
    let e : c.loop-list.list-index ≡ length c.args.lists.now = omega (arith, c.loop-list-test.false, c.loop-list.auto.list-index-end) in
    kinds_from c.args.lists.now c.in_ok-kinds.kinds.items _ _ _ (rw c.deref-2.ensures.value at c.in_ok-kinds.ensures) (rw e at c.loop-list.invariant)
