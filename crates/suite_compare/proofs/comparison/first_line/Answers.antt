use Rattle.suite_compare.proofs.comparison.first_line.Goals as goal

pub returns : goal.returns
returns c = rw c.in_ok-made.ensures.names_are at (c.in_ok-first.ensures.first _ _ c.in_ok-made.ensures.are)
