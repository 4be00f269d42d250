use Rattle.migrate_plan.proofs.AnyDependent.{IsBehind}
use Rattle.migrate_plan.proofs.homes.has_arch_dependent.Given as goal

abbrev pub invariant-loop-place : goal.invariant-loop-place
invariant-loop-place l = IsBehind l.flags l.packages l.place
