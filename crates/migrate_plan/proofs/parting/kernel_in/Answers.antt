use Rattle.std.proofs.{Common.{subst}, lemmas.Option.{same_Some}}
use Rattle.migrate_plan.specs.BothSuites.{IsBaseFor}
use Rattle.migrate_plan.proofs.parting.kernel_in.Goals as goal

pub kernel_by-requires-clause-base : goal.kernel_by-requires-clause-base
kernel_by-requires-clause-base c = c.requires.reuse.base_is _ c.in-Some.is

pub kernel_by-requires-clause-rounds : goal.kernel_by-requires-clause-rounds
kernel_by-requires-clause-rounds c = c.requires.reuse.rounds_are

pub returns-in-Some-clause-reuse : goal.returns-in-Some-clause-reuse
returns-in-Some-clause-reuse c = record {
  base_is = λ base is. subst (IsBaseFor c.args.both.now) (same_Some _ base is) c.kernel_by.ensures.base;
  known_are = c.requires.reuse.known_are;
  rounds_are = c.kernel_by.ensures.rounds;
}

pub returns-in-None-clause-rows : goal.returns-in-None-clause-rows
returns-in-None-clause-rows c = c.kernel_alone.ensures.rows c.args.reuse.now.base
