use Rattle.std.proofs.Common.{◌≡◌, ℕ, ◌<◌, false, length}
use Rattle.std.specs.Option.{option_map}
use Rattle.clause_pool.specs.Interned.{clause_at}
use Rattle.clause_pool.proofs.Groups.{part_within}
use Rattle.clause_pool.proofs.within.+has_rest_within.Given as goal

abbrev pub decreases-has_rest_within : goal.decreases-has_rest_within
decreases-has_rest_within l = length l.wanted.now

-- none that goes on with one of the numbers so far is within them
abbrev pub invariant-loop-place : goal.invariant-loop-place
invariant-loop-place l = (k : ℕ) → k < l.place → part_within l.pool (option_map (clause_at l.pool) l.but) l.depth l.group l.wanted k ≡ false
