use Rattle.std.proofs.Common.{length, take}
use Rattle.row_book.specs.Pairs.{ListsPairs}
use Rattle.row_book.proofs.pairing.enter_pairs.Given as goal

abbrev pub invariant-loop-pair : goal.invariant-loop-pair
invariant-loop-pair l = ListsPairs l.table.items (length l.fn.table.items) (take l.pair-index l.pairs)
