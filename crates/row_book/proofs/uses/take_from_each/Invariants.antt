use Rattle.std.proofs.Common.{take}
use Rattle.row_book.proofs.Tables.{TakenFrom}
use Rattle.row_book.proofs.uses.take_from_each.Given as goal

abbrev pub invariant-loop-number : goal.invariant-loop-number
invariant-loop-number l = TakenFrom l.fn.table (take l.number-index l.numbers) l.kept l.package l.table
