use Rattle.row_book.proofs.Pairs.{rising_sorted}
use Rattle.row_book.proofs.pairing.in_order.Goals as goal

pub returns-clause-rising : goal.returns-clause-rising
returns-clause-rising c = rising_sorted c.sort_unstable.new.self.items c.sort_unstable.ensures.sorted
