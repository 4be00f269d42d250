use Rattle.std.proofs.Common.{take}
use Rattle.row_book.proofs.Tables.{PutInto}
use Rattle.row_book.proofs.uses.put_into_each.Given as goal

abbrev pub invariant-loop-number : goal.invariant-loop-number
invariant-loop-number l = PutInto l.fn.table (take l.number-index l.numbers) l.package l.table
