use Rattle.std.proofs.Common.{sym}
use Rattle.suite_compare.proofs.Groups.{behind_more}
use Rattle.suite_compare.proofs.suspect.add_holders.Goals as goal

pub loop-class-preserved : goal.loop-class-preserved
loop-class-preserved c = behind_more _ c.args.classes.now c.loop-class.class-index 0 c.args.found.now.items c.loop-class.found.items c.extend_from_slice.new.self.items c.places_at.result.now c.loop-class-test.true
    c.in_ok-extend_from_slice.ensures.items c.loop-class.invariant (sym c.places_at.ensures)
