use Rattle.std.specs.Prelude.{◌≡◌, ℕ, length, slice_index_or, None}
use Rattle.clause_pool.proofs.compacting.nothing_known.Given as goal

abbrev pub invariant-loop-i : goal.invariant-loop-i
invariant-loop-i l = record { size : length l.known.items ≡ l._i; none : (row : ℕ) → slice_index_or l.known.items row None ≡ None }
