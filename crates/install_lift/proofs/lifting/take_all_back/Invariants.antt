use Rattle.std.proofs.Common.{drop, ◌≤◌, length}
use Rattle.row_book.specs.{Flags.{flag}, Trail.{trail_meaning}}
use Rattle.install_lift.specs.Lifting.{IsLift}
use Rattle.install_lift.proofs.lifting.take_all_back.Given as goal

abbrev pub invariant-loop-left : goal.invariant-loop-left
invariant-loop-left l = record {
  within : l.left ≤ length l.steps;
  lifts : IsLift (trail_meaning l.pool (drop l.left l.steps)) (flag l.classes) (flag l.set.items);
}

abbrev pub decreases-loop-left : goal.decreases-loop-left
decreases-loop-left l = l.left
