use Rattle.std.proofs.Common.{◌∙◌, ap}
use Rattle.suite_compare.specs.declared.report.ReportLine.TheVariants.{Open1}
use Rattle.suite_compare.proofs.report.copy_of_line.Goals as goal

pub returns-in_ok-name-in-Open1 : goal.returns-in_ok-name-in-Open1
returns-in_ok-name-in-Open1 c = rw c.in-Open1.is (ap Open1 (c.in_ok-name-in-Open1.ensures ∙ c.as_slice-in-Open1.ensures))
