use Rattle.std.proofs.Common.{◌≡◌, map, take}
use Rattle.repo_model.specs.Repository.{suite_repository}
use Rattle.suite_compare.specs.Asking.{goal_classes}
use Rattle.explain_core.proofs.asking.classes_of.Given as goal

abbrev pub invariant-loop-place : goal.invariant-loop-place
invariant-loop-place l = l.classes ≡ map (goal_classes l.view.limit l.view.kernel.hold (suite_repository l.view.suite.home l.view.suite.packages)) (take l.place l.wanted)
