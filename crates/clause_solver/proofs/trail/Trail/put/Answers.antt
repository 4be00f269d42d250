use Rattle.clause_solver.proofs.Trails.{put_is}
use Rattle.clause_solver.proofs.trail.Trail.put.Goals as goal

pub invariant_of-self-2 : goal.invariant_of-self-2
invariant_of-self-2 c = put_is c.self.inside.classes c.self.inside.flags.items c.self.inside.literals.items c.push.new.self.items c.args.l c.place.result c.self.invariant (rw (← c.self.view_is) at c.requires.class) (rw (← c.self.view_is) at c.requires.new) c.place.ensures c.in_ok-push.ensures.items
