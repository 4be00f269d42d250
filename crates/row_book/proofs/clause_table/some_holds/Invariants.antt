use Rattle.std.proofs.Common.{◌≡◌, false, take}
use Rattle.row_book.specs.Holders.{ids_hold, ArePlaced}
use Rattle.row_book.proofs.clause_table.some_holds.Given as goal

abbrev pub invariant-loop-id : goal.invariant-loop-id
invariant-loop-id l = ArePlaced l.pool l.number l.places l.ids → ids_hold l.pool l.number (take l.id-index l.ids) ≡ false
