use Rattle.std.proofs.Common.{◌<◌, length, arith}
use Rattle.clause_solver.proofs.Trails.{undo_is, undo_front, undo_longer}
use Rattle.clause_solver.proofs.trail.Trail.undo.Goals as goal

pub loop-self-preserved : goal.loop-self-preserved
loop-self-preserved c =
    let more : c.args.keep < length c.loop-self.self-inside.literals.items = omega (arith, c.loop-self-test.true, c.len.ensures) in
    record {
      is = undo_is c.loop-self.self-inside.classes c.loop-self.self-inside.flags.items c.loop-self.self-inside.literals.items c.pop.new.self.items c.in-Some.l c.place.result c.place.ensures c.in-Some.ensures.items c.loop-self.invariant.is;
      classes = c.loop-self.invariant.classes;
      front = undo_front c.self.inside.literals.items c.loop-self.self-inside.literals.items c.pop.new.self.items c.in-Some.l c.in-Some.ensures.items c.loop-self.invariant.front;
      keep = undo_longer c.loop-self.self-inside.literals.items c.pop.new.self.items c.in-Some.l c.args.keep c.in-Some.ensures.items more;
    }
