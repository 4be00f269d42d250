use Rattle.clause_solver.proofs.Building.{IsTableTo}
use Rattle.clause_solver.proofs.table.enter_all.Given as goal

abbrev pub invariant-loop-k : goal.invariant-loop-k
invariant-loop-k l = IsTableTo l.classes l.k l.uses l.own
