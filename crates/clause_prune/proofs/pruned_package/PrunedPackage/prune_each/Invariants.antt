use Rattle.std.proofs.Common.{drop}
use Rattle.row_book.specs.Trail.{trail_meaning}
use Rattle.clause_prune.proofs.Left.{Pruning}
use Rattle.clause_prune.proofs.pruned_package.PrunedPackage.prune_each.Given as goal

abbrev pub invariant-loop-id : goal.invariant-loop-id
invariant-loop-id l = Pruning l.self.pool.now l.self.rows.now l.self.number l.ids l.left l.self.table.now (trail_meaning l.self.pool.now l.fn.idle) (trail_meaning l.self.pool.now l.idle) (drop l.id-index l.ids)
