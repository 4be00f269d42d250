use Rattle.suite_compare.proofs.Named.{own_names}
use Rattle.suite_compare.proofs.old_side.OldSide.new.Goals as goal

pub side_of-requires-clause-names : goal.side_of-requires-clause-names
side_of-requires-clause-names c = λ name i. own_names c.args.view.now.suite.packages name (rw (c.as_slice.ensures, c.in_ok-names.ensures) at i)
