use Rattle.std.proofs.Common.{◌≡◌, map, take}
use Rattle.suite_compare.specs.Asking.{images_of}
use Rattle.status_check.specs.Report.{had_goals, line_for}
use Rattle.status_check.proofs.classes.look_up.Given as goal

abbrev pub invariant-loop-facts : goal.invariant-loop-facts
invariant-loop-facts l = record {
  lines : l.lines ≡ map (line_for l.view.suite.packages) (take l.facts-index l.packages);
  classes : l.classes ≡ images_of l.view.limit l.view.kernel.hold l.view.suite.home l.view.suite.packages (had_goals l.view.suite.packages (take l.facts-index l.packages));
}
