use Rattle.std.proofs.Common.{◌≡◌, ◌+◌, ◌*◌, ◌-◌, ◌<◌, length}
use Rattle.std.specs.List.{range_with_len}
use Rattle.explain_core.specs.{Core.{goal_core, verdict_on}, Deletion.{kept_behind}, Picking.{ArePlacesFrom1}}
use Rattle.explain_core.proofs.Told.{kept_marks}
use Rattle.explain_core.proofs.goals.core_of.Given as goal

abbrev pub invariant-loop-place : goal.invariant-loop-place
invariant-loop-place l = record {
  left : goal_core l.view.limit l.view.kernel.hold l.view.suite.home l.view.suite.packages l.budget l.goals
      ≡ kept_behind (verdict_on l.view.limit l.view.kernel.hold l.view.suite.home l.view.suite.packages l.budget l.goals) (kept_marks l.marks) (range_with_len (l.place + 1) (length l.goals - l.place));
  places : ArePlacesFrom1 l.place l.marks;
  some : 0 < l.block;
}

abbrev pub decreases-loop-place : goal.decreases-loop-place
decreases-loop-place l = (l.all - l.place) * 3 + l.block
