use Rattle.std.{proofs.Common.{◌≡◌, ◌++◌, filter}, specs.List.{flat_map, range_with_len}}
use Rattle.suite_compare.{specs.Comparing.{goes_alone}, specs.Telling.{told_after}}
use Rattle.suite_compare.proofs.tell.tell_pairs.Given as goal

abbrev pub invariant-loop-place : goal.invariant-loop-place
invariant-loop-place l = l.lines ≡ l.initial.lines ++ flat_map (told_after l.names l.table.kind_pairs.pair_of.items l.partners) (filter (goes_alone l.sides.side) (range_with_len 0 l.place))
