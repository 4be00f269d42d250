use Rattle.migrate_plan.proofs.AnyDependent.{none_behind}
use Rattle.migrate_plan.proofs.homes.has_arch_dependent.Goals as goal

pub returns : goal.returns
returns c = none_behind c.args.flags.now c.args.packages.now c.loop-place.place c.loop-place-test.false c.loop-place.invariant
