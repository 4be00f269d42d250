use Rattle.std.proofs.Common.{◌≡◌, ◌++◌, length}
use Rattle.deb_version.specs.Keys.{part_key}
use Rattle.deb_version.proofs.keys.push_part.Given as goal

abbrev pub invariant-loop-rest : goal.invariant-loop-rest
invariant-loop-rest l = l.out.items ++ part_key l.rest ≡ l.fn.out.items ++ part_key l.part

abbrev pub decreases-loop-rest : goal.decreases-loop-rest
decreases-loop-rest l = length l.rest
