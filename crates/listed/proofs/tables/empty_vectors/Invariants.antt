use Rattle.std.proofs.Common.{◌≡◌, ℕ, [], length, map}
use Rattle.std.specs.Prelude.{slice_index_or}
use Rattle.listed.proofs.tables.empty_vectors.Given as goal

abbrev pub invariant-loop-i : goal.invariant-loop-i
invariant-loop-i T l = record { size : length l.made.items ≡ l._i; empty : (k : ℕ) → slice_index_or (map (λ v. v.items) l.made.items) k [] ≡ [] }
