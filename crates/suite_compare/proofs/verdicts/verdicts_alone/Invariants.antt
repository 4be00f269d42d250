use Rattle.std.proofs.Common.{◌≡◌, take, map}
use Rattle.suite_compare.specs.Kinds.{alone, kernel_in}
use Rattle.suite_compare.proofs.verdicts.verdicts_alone.Given as goal

abbrev pub invariant-loop-kind : goal.invariant-loop-kind
invariant-loop-kind l = l.verdicts.items ≡ map (alone (kernel_in l.judge) l.judge.budget) (take l.kind l.judge.kinds.items)
