use Rattle.suite_compare.proofs.comparison.report_of.Goals as goal

pub returns : goal.returns
returns c = rw c.in_ok-after.ensures.names_are at (c.report_beside-report.ensures _ _ c.in_ok-after.ensures.are)
