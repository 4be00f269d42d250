use Rattle.std.proofs.Common.{◌≡◌, ℕ, ◌<◌, false, get_or}
use Rattle.std.specs.Option.{option_map}
use Rattle.clause_pool.specs.{Interned.{clause_at}, Within.{rest_within}}
use Rattle.clause_pool.proofs.within.any_within.Given as goal

abbrev pub invariant-loop-id : goal.invariant-loop-id
invariant-loop-id l = (k : ℕ) → k < l.id-index → rest_within l.pool (option_map (clause_at l.pool) l.but) l.depth l.wanted (get_or l.group k 0) ≡ false
