use Rattle.std.proofs.Common.{ℕ, ◌<◌, ◌≤◌, ◌-◌, length, slice_index_or}
use Rattle.clause_pool.specs.Within.{lead, rest_at}
use Rattle.clause_pool.proofs.within.first_by_halves.Given as goal

-- what lies before is known not to have the number or a greater one at the depth, and what lies behind to have it
abbrev pub invariant-loop-low : goal.invariant-loop-low
invariant-loop-low l =
    (l.low ≤ l.high) × (l.high ≤ length l.group) × ((k : ℕ) → k < l.low → lead (rest_at l.pool l.depth (slice_index_or l.group k 0)) ≤ l.number)
    × ((k : ℕ) → l.high ≤ k → k < length l.group → l.number < lead (rest_at l.pool l.depth (slice_index_or l.group k 0)))

abbrev pub decreases-loop-low : goal.decreases-loop-low
decreases-loop-low l = l.high - l.low
