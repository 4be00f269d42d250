use Rattle.std.proofs.Common.{take}
use Rattle.clause_solver.specs.{Marking.{set_of_trail}, Starts.{IsSwept}}
use Rattle.clause_solver.proofs.nodes.least_open.Given as goal

abbrev pub invariant-loop-l : goal.invariant-loop-l
invariant-loop-l l = IsSwept (set_of_trail l.trail.1) l.own l.uses (take l.l-index l.literals) l.before l.least
