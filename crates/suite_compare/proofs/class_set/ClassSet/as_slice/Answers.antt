use Rattle.suite_compare.proofs.Chosen.{flagged_below}
use Rattle.suite_compare.proofs.class_set.ClassSet.as_slice.Goals as goal

pub returns-clause-below : goal.returns-clause-below
returns-clause-below c = rw (← c.self.view_is, c.as_slice.ensures.value) (flagged_below c.self.inside.flags.items c.self.inside.members.items c.self.invariant)
