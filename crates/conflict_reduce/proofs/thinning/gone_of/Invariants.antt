use Rattle.conflict_reduce.proofs.Passed.{AllPassing}
use Rattle.conflict_reduce.proofs.thinning.gone_of.Given as goal

abbrev pub invariant-loop-number : goal.invariant-loop-number
invariant-loop-number l = AllPassing l.pool l.book l.number l.gone.items
