use Rattle.std.proofs.Common.{◌≡◌, filter}
use Rattle.std.specs.List.{flat_map, range_with_len}
use Rattle.row_book.specs.{Book.{repository_of}, Flags.{flag}}
use Rattle.explain_core.specs.Only.{conflicts_above}
use Rattle.explain_core.proofs.conflicts.conflicts_within.Given as goal

abbrev pub invariant-loop-low : goal.invariant-loop-low
invariant-loop-low l = l.pairs.items ≡ flat_map (conflicts_above (repository_of l.pool l.book) (flag l.flags)) (filter (flag l.flags) (range_with_len 0 l.low))
