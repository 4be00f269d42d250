use Rattle.std.proofs.Common.{◌≡◌, take, map, slice_index_or}
use Rattle.suite_compare.proofs.kinds.numbers_at.Given as goal

abbrev pub invariant-loop-place : goal.invariant-loop-place
invariant-loop-place l = l.made.items ≡ map (λ i. slice_index_or l.list i 0) (take l.place-index l.places)
