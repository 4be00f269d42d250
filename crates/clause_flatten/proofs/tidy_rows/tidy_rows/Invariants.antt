use Rattle.clause_flatten.proofs.Tidied.{TidiedTo}
use Rattle.clause_flatten.proofs.tidy_rows.tidy_rows.Given as goal

abbrev pub invariant-loop-number : goal.invariant-loop-number
invariant-loop-number l = TidiedTo l.pool l.rows l.made.items l.number
