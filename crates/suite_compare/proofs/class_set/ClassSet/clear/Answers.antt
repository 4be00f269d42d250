use Rattle.std.proofs.Common.{◌<◌, length, arith, refl}
use Rattle.suite_compare.proofs.Chosen.{last_left, left_all, left_less}
use Rattle.suite_compare.proofs.class_set.ClassSet.clear.Goals as goal

pub loop-class-init : goal.loop-class-init
loop-class-init c = left_all c.self.inside.flags.items c.self.inside.members.items c.self.invariant

pub index_mut-requires : goal.index_mut-requires
index_mut-requires c =
    let lt : c.in-Some.class < length c.loop-class.self-inside.flags.items = last_left (length c.self.inside.flags.items) c.loop-class.self-inside.flags.items c.loop-class.self-inside.members.items c.pop.new.self.items c.in-Some.class c.in-Some.ensures.items c.loop-class.invariant in
    omega arith

pub loop-class-preserved : goal.loop-class-preserved
loop-class-preserved c = left_less (length c.self.inside.flags.items) c.loop-class.self-inside.flags.items _ c.loop-class.self-inside.members.items c.pop.new.self.items c.in-Some.class c.in-Some.ensures.items refl c.loop-class.invariant
