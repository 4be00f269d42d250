use Rattle.std.{proofs.Common.{◌≡◌}, specs.List.{range_with_len}}
use Rattle.suite_compare.proofs.suspect.all_places.Given as goal

abbrev pub invariant-loop-place : goal.invariant-loop-place
invariant-loop-place l = l.made.items ≡ range_with_len 0 l.place
