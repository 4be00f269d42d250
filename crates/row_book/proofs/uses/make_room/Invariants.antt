use Rattle.std.proofs.Common.{◌≡◌, ◌<◌, ℕ, true, take}
use Rattle.listed.specs.Lists.{has}
use Rattle.row_book.specs.Uses.{lists_in, room_in}
use Rattle.row_book.proofs.uses.make_room.Given as goal

abbrev pub invariant-loop-number : goal.invariant-loop-number
invariant-loop-number l = record {
  lists : lists_in l.table ≡ lists_in l.fn.table;
  room : (n : ℕ) → has (take l.number-index l.numbers) n ≡ true → 0 < room_in l.table n;
}
