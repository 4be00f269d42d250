use Rattle.std.proofs.Common.{get_or, sym}
use Rattle.listed.proofs.Lists.{In_at, any_from}
use Rattle.row_book.specs.Flags.{flag}
use Rattle.suite_part.proofs.subset.has_one.Goals as goal

pub bounds-flags-number : goal.bounds-flags-number
bounds-flags-number c = c.requires (get_or c.args.numbers.now c.loop-number.number-index 0) (In_at c.args.numbers.now c.loop-number.number-index 0 c.loop-number-test.true)

pub returns-then-flags-number : goal.returns-then-flags-number
returns-then-flags-number c =
    sym (any_from (flag c.args.flags.now) c.args.numbers.now (get_or c.args.numbers.now c.loop-number.number-index 0) (In_at c.args.numbers.now c.loop-number.number-index 0 c.loop-number-test.true) c.if-flags-number.true)
