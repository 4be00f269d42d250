use Rattle.suite_compare.proofs.Groups.{map_pushed}
use Rattle.suite_compare.proofs.bearers.bearers_of.Goals as goal

pub loop-name-preserved : goal.loop-name-preserved
loop-name-preserved c = map_pushed _ c.args.names.now c.loop-name.name-index c.name-item.result c.loop-name.lists.items c.push.new.self.items c.in_ok-few.few c.loop-name-test.true c.in_ok-push.ensures.items
    (rw (c.in_ok-few.ensures, c.deref.ensures.value, c.in_ok-numbers.ensures, c.as_slice.ensures, ← c.name-item.is)) c.loop-name.invariant
