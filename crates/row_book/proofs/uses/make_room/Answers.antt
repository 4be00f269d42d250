use Rattle.std.proofs.{Common.{◌<◌, ◌∙◌, get_or, length, refl}, lemmas.List.{get_or_default}}
use Rattle.row_book.proofs.Tables.{place_within, lists_kept, room_more}
use Rattle.row_book.proofs.uses.make_room.Goals as goal

pub bounds-table-number : goal.bounds-table-number
bounds-table-number c = place_within c.loop-number.table c.args.numbers.now c.loop-number.number-index (length c.args.table.now) c.loop-number.auto.table c.loop-number-test.true c.requires

pub returns-in_err-reserve-clause-lists : goal.returns-in_err-reserve-clause-lists
returns-in_err-reserve-clause-lists c =
    let x = get_or c.args.numbers.now c.loop-number.number-index 0 in
    let u : x < length c.loop-number.table = place_within c.loop-number.table c.args.numbers.now c.loop-number.number-index (length c.args.table.now) c.loop-number.auto.table c.loop-number-test.true c.requires in
    lists_kept c.loop-number.table x (get_or c.loop-number.table x c.index-table-number.result) c.reserve.new.self c.index-table-number.result u refl c.reserve.ensures.items ∙ c.loop-number.invariant.lists

pub loop-number-preserved : goal.loop-number-preserved
loop-number-preserved c =
    let x = get_or c.args.numbers.now c.loop-number.number-index 0 in
    let u : x < length c.loop-number.table = place_within c.loop-number.table c.args.numbers.now c.loop-number.number-index (length c.args.table.now) c.loop-number.auto.table c.loop-number-test.true c.requires in
    record {
      lists = lists_kept c.loop-number.table x (get_or c.loop-number.table x c.index-table-number.result) c.reserve.new.self c.index-table-number.result u refl c.reserve.ensures.items ∙ c.loop-number.invariant.lists;
      room = room_more c.loop-number.table c.args.numbers.now c.loop-number.number-index x c.reserve.new.self c.loop-number-test.true (get_or_default c.args.numbers.now c.loop-number.number-index 0 x c.loop-number-test.true) u c.in_ok-reserve.ensures.ok c.loop-number.invariant.room;
    }
