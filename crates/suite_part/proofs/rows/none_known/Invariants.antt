use Rattle.std.specs.Prelude.{◌≡◌, ℕ, length, slice_index_or, None}
use Rattle.suite_part.proofs.rows.none_known.Given as goal

abbrev pub invariant-loop-i : goal.invariant-loop-i
invariant-loop-i T l = record { size : length l.known.items ≡ l._i; none : (id : ℕ) → slice_index_or l.known.items id None ≡ None }
