use Rattle.clause_solver.proofs.Building.{EntersTo}
use Rattle.clause_solver.proofs.table.enter.Given as goal

abbrev pub invariant-loop-l : goal.invariant-loop-l
invariant-loop-l l = EntersTo l.initial.uses l.uses l.sentence l.l-index l.k
