use Rattle.std.proofs.Common.{◌≡◌, ◌++◌, ◌&&◌, filter, map, take, ltb}
use Rattle.row_book.specs.Flags.{flag}
use Rattle.explain_core.specs.Only.{pair}
use Rattle.explain_core.proofs.conflicts.add_above.Given as goal

abbrev pub invariant-loop-high : goal.invariant-loop-high
invariant-loop-high l = l.pairs.items ≡ l.initial.pairs.items ++ map (pair l.low) (filter (λ high. ltb l.low high && flag l.flags high) (take l.high-index l.against))
