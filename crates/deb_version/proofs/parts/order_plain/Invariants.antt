use Rattle.std.proofs.Common.{◌≡◌, drop}
use Rattle.std.specs.{Cmp.Lexicographic.{slice_cmp}, Ordering.{int_cmp}}
use Rattle.deb_version.specs.Order.{weights}
use Rattle.deb_version.proofs.parts.order_plain.Given as goal

abbrev pub invariant-loop-i : goal.invariant-loop-i
invariant-loop-i l = slice_cmp int_cmp (weights l.left) (weights l.right) ≡ slice_cmp int_cmp (weights (drop l.i l.left)) (weights (drop l.i l.right))
