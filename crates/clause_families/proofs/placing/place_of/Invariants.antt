use Rattle.std.proofs.Common.{◌≡◌, ℕ, ◌<◌, ◌≤◌, ◌-◌, true, false, get_or, length}
use Rattle.clause_pool.specs.{Interned.{clause_at}, Clauses.{comes_before}}
use Rattle.clause_families.proofs.placing.place_of.Given as goal

abbrev pub invariant-halving : goal.invariant-halving
invariant-halving l = record {
  between : l.low ≤ l.high;
  within : l.high ≤ length l.ids;
  before : (k : ℕ) → k < l.low → comes_before (clause_at l.pool (get_or l.ids k 0)) l.clause ≡ true;
  behind : (k : ℕ) → l.high ≤ k → k < length l.ids → comes_before (clause_at l.pool (get_or l.ids k 0)) l.clause ≡ false;
}

abbrev pub decreases-halving : goal.decreases-halving
decreases-halving l = l.high - l.low
