use Rattle.std.proofs.{Common.{◌<◌, get_or, subst, sym}, lemmas.List.{get_or_default}}
use Rattle.row_book.specs.Uses.{lists_in}
use Rattle.row_book.proofs.Holders.{gains_more, there_more}
use Rattle.listed.proofs.Lists.{In_at}
use Rattle.row_book.proofs.clause_table.push_to_each.Goals as goal

pub push_to-requires : goal.push_to-requires
push_to-requires c =
    let k = c.loop-number.number-index in
    subst (λ size. get_or c.args.numbers.now k 0 < size) (sym c.loop-number.auto.lists) (c.requires (get_or c.args.numbers.now k 0) (In_at c.args.numbers.now k 0 c.loop-number-test.true))

pub returns-in_err-push_to-clause-came : goal.returns-in_err-push_to-clause-came
returns-in_err-push_to-clause-came c =
    gains_more c.args.numbers.now (get_or c.args.numbers.now c.loop-number.number-index 0) c.args.item (lists_in c.args.lists.now) (lists_in c.loop-number.lists) (lists_in c.push_to.new.lists)
    (In_at c.args.numbers.now c.loop-number.number-index 0 c.loop-number-test.true) c.loop-number.invariant.came c.push_to.ensures.came

pub loop-number-preserved : goal.loop-number-preserved
loop-number-preserved c =
    let k = c.loop-number.number-index in
    let x = get_or c.args.numbers.now k 0 in
    record {
      there_now = there_more c.args.numbers.now k x c.args.item (lists_in c.loop-number.lists) (lists_in c.push_to.new.lists) c.loop-number-test.true
          (get_or_default c.args.numbers.now k 0 x c.loop-number-test.true) c.push_to.ensures.stays c.in_ok-push_to.ensures.there c.loop-number.invariant.there_now;
      stays = λ n m i. c.push_to.ensures.stays n m (c.loop-number.invariant.stays n m i);
      came = gains_more c.args.numbers.now x c.args.item (lists_in c.args.lists.now) (lists_in c.loop-number.lists) (lists_in c.push_to.new.lists)
          (In_at c.args.numbers.now k 0 c.loop-number-test.true) c.loop-number.invariant.came c.push_to.ensures.came;
    }
