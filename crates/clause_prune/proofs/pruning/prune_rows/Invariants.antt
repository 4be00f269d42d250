use Rattle.clause_prune.specs.Tests.{repository_in}
use Rattle.clause_prune.proofs.PassedRows.{PassedSoFar}
use Rattle.clause_prune.proofs.pruning.prune_rows.Given as goal

abbrev pub invariant-loop-number : goal.invariant-loop-number
invariant-loop-number l = PassedSoFar (repository_in l.fn.pool l.fn.rows l.table) l.fn.pool l.pool l.rows l.table l.idle l.number
