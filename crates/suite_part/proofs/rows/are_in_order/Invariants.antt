use Rattle.std.proofs.Common.{ℕ, suc, ◌<◌, get_or}
use Rattle.clause_pool.specs.{Interned.{clause_at}, Lists.{Before}}
use Rattle.suite_part.proofs.rows.are_in_order.Given as goal

abbrev pub invariant-loop-place : goal.invariant-loop-place
invariant-loop-place l = (k : ℕ) → suc k < l.place → Before (clause_at l.pool (get_or l.ids k 0)) (clause_at l.pool (get_or l.ids (suc k) 0))
