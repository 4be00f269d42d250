use Rattle.std.proofs.Common.{◌≡◌, ℕ, ◌<◌, length, get_or}
use Rattle.repo_model.proofs.ranks.places_of.Given as goal

abbrev pub invariant-loop-place : goal.invariant-loop-place
invariant-loop-place l = record {
  sized : length l.places.items ≡ l.count;
  placed : (k : ℕ) → k < l.place → get_or l.places.items (get_or l.order k 0) 0 ≡ k;
}
