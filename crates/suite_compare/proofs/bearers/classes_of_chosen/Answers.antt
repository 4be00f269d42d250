use Rattle.std.proofs.Common.{[], ◌∙◌, ◌<◌, ap, filter, subst, sym}
use Rattle.listed.specs.Lists.{In}
use Rattle.listed.proofs.Lists.{In_at, filter_cases}
use Rattle.row_book.specs.Flags.{flag}
use Rattle.row_book.proofs.Flags.{flag_in}
use Rattle.suite_compare.specs.Bearers.{AreClasses}
use Rattle.suite_compare.proofs.Groups.{each_more, each_none}
use Rattle.suite_compare.proofs.bearers.classes_of_chosen.Goals as goal

pub loop-place-init : goal.loop-place-init
loop-place-init c = each_none _ [] c.new-made.result.items c.new-made.ensures.items

pub put_chosen-requires : goal.put_chosen-requires
put_chosen-requires c = λ n i. c.requires.flags _ (In_at c.args.lists.now c.loop-place.place [] c.loop-place-test.true) n (rw c.few_at.ensures at i)

pub classes_of_few-requires : goal.classes_of_few-requires
classes_of_few-requires c = λ n i.
    let chosen = c.as_slice.ensures.value ∙ c.in_ok-put_chosen.ensures in
    subst (λ size. n < size) (sym c.requires.classes) (flag_in c.args.flags.now n (filter_cases (flag c.args.flags.now) c.few_at.result.now n (subst (λ z. In n z) chosen i)).1)

pub loop-place-preserved : goal.loop-place-preserved
loop-place-preserved c =
    let chosen = c.as_slice.ensures.value ∙ c.in_ok-put_chosen.ensures ∙ ap (filter (flag c.args.flags.now)) c.few_at.ensures in
    each_more _ [] c.loop-place.place c.loop-place.made.items c.push.new.self.items c.in_ok-image.image c.in_ok-push.ensures.items
    (subst (λ z. AreClasses c.args.class_of.now z c.in_ok-image.image) chosen c.in_ok-image.ensures) c.loop-place.invariant
