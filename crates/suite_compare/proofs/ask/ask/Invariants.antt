use Rattle.std.proofs.Common.{◌≡◌, ◌+◌, map, take, drop}
use Rattle.repo_model.specs.Goals.{packages_named}
use Rattle.suite_compare.{specs.Asking.{image_of}, specs.Answering.{unknown_from, unknown_goal}}
use Rattle.suite_compare.proofs.ask.ask.Given as goal

abbrev pub invariant-loop-place : goal.invariant-loop-place
invariant-loop-place l = record {
  packages : l.packages ≡ map (packages_named l.view.suite.packages) (take l.place l.goals);
  classes : l.classes ≡ map (image_of l.view.limit l.view.kernel.hold l.view.suite.home l.view.suite.packages) (take l.place l.goals);
  known : unknown_goal l.view.suite.packages l.goals ≡ unknown_from (l.place + 1) l.view.suite.packages (drop l.place l.goals);
}
