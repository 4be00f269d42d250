use Rattle.std.proofs.Common.{get_or, refl}
use Rattle.listed.proofs.Lists.{In_at}
use Rattle.suite_part.proofs.Backs.{numbers_more}
use Rattle.suite_part.proofs.back.numbers_of.Goals as goal

pub bounds-numbers-place : goal.bounds-numbers-place
bounds-numbers-place c = c.requires (get_or c.args.places.now c.loop-place.place-index 0) (In_at c.args.places.now c.loop-place.place-index 0 c.loop-place-test.true)

pub loop-place-preserved : goal.loop-place-preserved
loop-place-preserved c = numbers_more c.args.numbers.now c.args.places.now c.loop-place.made.items c.push.new.self.items c.loop-place.place-index _ c.loop-place-test.true refl c.loop-place.invariant c.in_ok-push.ensures.items
