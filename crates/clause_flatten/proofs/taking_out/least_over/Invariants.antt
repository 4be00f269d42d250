use Rattle.std.proofs.Common.{◌≡◌, ℕ, ◌<◌, false}
use Rattle.clause_pool.specs.Interned.{Interned}
use Rattle.clause_flatten.specs.{Ready.{table_of}, TakingOut.{is_over}}
use Rattle.clause_flatten.proofs.taking_out.least_over.Given as goal

abbrev pub invariant-loop-number : goal.invariant-loop-number
invariant-loop-number l = (pool : Interned) (k : ℕ) → k < l.number → is_over (table_of pool l.rows) l.limit k ≡ false
