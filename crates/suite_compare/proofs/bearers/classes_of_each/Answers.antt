use Rattle.std.proofs.Common.{[]}
use Rattle.listed.proofs.Lists.{In_at}
use Rattle.suite_compare.proofs.Groups.{each_more, each_none}
use Rattle.suite_compare.proofs.bearers.classes_of_each.Goals as goal

pub loop-place-init : goal.loop-place-init
loop-place-init c = each_none _ [] c.new-made.result.items c.new-made.ensures.items

pub classes_of_few-requires : goal.classes_of_few-requires
classes_of_few-requires c = λ n i. c.requires _ (In_at c.args.lists.now c.loop-place.place [] c.loop-place-test.true) n (rw c.few_at.ensures at i)

pub loop-place-preserved : goal.loop-place-preserved
loop-place-preserved c = each_more _ [] c.loop-place.place c.loop-place.made.items c.push.new.self.items c.in_ok-image.image c.in_ok-push.ensures.items (rw c.few_at.ensures at c.in_ok-image.ensures) c.loop-place.invariant
