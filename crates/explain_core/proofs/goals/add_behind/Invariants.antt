use Rattle.std.proofs.Common.{◌≡◌, ◌++◌, drop}
use Rattle.explain_core.proofs.goals.add_behind.Given as goal

abbrev pub invariant-loop-place : goal.invariant-loop-place
invariant-loop-place l = l.out ++ drop l.place l.needs ≡ l.initial.out ++ drop l.from l.needs
