use Rattle.std.proofs.Common.{◌≡◌, false, filter}
use Rattle.std.specs.{Prelude.{slice_index_or}, List.{range_with_len}}
use Rattle.listed.proofs.flags.true_numbers.Given as goal

abbrev pub invariant-loop-place : goal.invariant-loop-place
invariant-loop-place l = l.numbers ≡ filter (λ n. slice_index_or l.flags n false) (range_with_len 0 l.place)
