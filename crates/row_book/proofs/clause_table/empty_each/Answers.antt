use Rattle.std.proofs.{Common.{get_or}, lemmas.List.{get_or_default}}
use Rattle.row_book.proofs.Holders.{emptied_more, spared_more}
use Rattle.row_book.proofs.clause_table.empty_each.Goals as goal

pub loop-number-preserved : goal.loop-number-preserved
loop-number-preserved c =
    let k = c.loop-number.number-index in
    let x = get_or c.args.numbers.now k 0 in
    record {
      empty = emptied_more c.args.numbers.now k x c.args.lists.now c.loop-number.lists c.empty_one.new.lists c.loop-number-test.true (get_or_default c.args.numbers.now k 0 x c.loop-number-test.true)
          c.empty_one.ensures.empty c.empty_one.ensures.others c.loop-number.invariant.empty;
      others = spared_more c.args.numbers.now k x c.args.lists.now c.loop-number.lists c.empty_one.new.lists c.loop-number-test.true (get_or_default c.args.numbers.now k 0 x c.loop-number-test.true)
          c.empty_one.ensures.empty c.empty_one.ensures.others c.loop-number.invariant.others;
    }
