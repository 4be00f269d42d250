use Rattle.std.proofs.{Common.{◌≡◌, get_or, refl, false, sym, ◌∙◌}, lemmas.List.{get_or_default}}
use Rattle.listed.specs.Lists.{has}
use Rattle.row_book.proofs.Tables.{take_more_out}
use Rattle.row_book.proofs.uses.take_from_each.Goals as goal

pub loop-number-preserved : goal.loop-number-preserved
loop-number-preserved c =
    let k = c.loop-number.number-index in
    let x = get_or c.args.numbers.now k 0 in
    let r : has c.args.kept.now x ≡ false = sym c.holds_sorted.ensures ∙ c.if-holds_sorted.false in
    take_more_out c.args.table.now c.loop-number.table c.args.numbers.now c.args.kept.now k x c.args.package (get_or c.loop-number.table x c.index-table-number.result) c.take_out.new.list c.index-table-number.result c.loop-number-test.true (get_or_default c.args.numbers.now k 0 x c.loop-number-test.true) c.if-number-table.false refl
    r c.take_out.ensures c.loop-number.invariant
