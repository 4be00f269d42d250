use Rattle.suite_compare.proofs.Chosen.{range_pushed}
use Rattle.suite_compare.proofs.suspect.all_places.Goals as goal

pub loop-place-preserved : goal.loop-place-preserved
loop-place-preserved c = range_pushed c.loop-place.made.items c.push.new.self.items c.loop-place.place c.in_ok-push.ensures.items c.loop-place.invariant
