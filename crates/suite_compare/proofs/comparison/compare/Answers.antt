use Rattle.suite_compare.proofs.comparison.compare.Goals as goal

pub report_of-report-requires-clause-limit : goal.report_of-report-requires-clause-limit
report_of-report-requires-clause-limit c = rw c.in_ok-before.ensures.view c.requires.limit

pub report_of-report-requires-clause-hold : goal.report_of-report-requires-clause-hold
report_of-report-requires-clause-hold c = rw c.in_ok-before.ensures.view c.requires.hold

pub returns : goal.returns
returns c = rw (c.in_ok-before.ensures.view, c.in_ok-before.ensures.budget) at c.report_of-report.ensures
