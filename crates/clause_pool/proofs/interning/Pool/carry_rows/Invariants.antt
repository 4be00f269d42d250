use Rattle.clause_pool.proofs.Carried.{CarriedOnce}
use Rattle.clause_pool.proofs.interning.Pool.carry_rows.Given as goal

abbrev pub invariant-loop-row : goal.invariant-loop-row
invariant-loop-row l = CarriedOnce l.from l.fn.self l.self l.rows l.made.items l.known.items l.row-index
