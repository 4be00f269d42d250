use Rattle.std.proofs.Common.{◌≡◌, ◌+◌, length}
use Rattle.deb_version.specs.Order.{part_order}
use Rattle.deb_version.proofs.parts.order_parts.Given as goal

abbrev pub invariant-loop-left : goal.invariant-loop-left
invariant-loop-left l = part_order l.fn.left l.fn.right ≡ part_order l.left l.right

abbrev pub decreases-loop-left : goal.decreases-loop-left
decreases-loop-left l = length l.left + length l.right
