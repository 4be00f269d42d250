use Rattle.std.specs.Prelude.{◌≡◌, ℕ, length, slice_index_or, None}
use Rattle.repo_model.proofs.select.no_places.Given as goal

abbrev pub invariant-loop-i : goal.invariant-loop-i
invariant-loop-i l = record { size : length l.made.items ≡ l._i; none : (row : ℕ) → slice_index_or l.made.items row None ≡ None }
