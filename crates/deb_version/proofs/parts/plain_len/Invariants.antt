use Rattle.std.proofs.Common.{◌≡◌, ℕ, ◌<◌, true, get_or}
use Rattle.deb_version.specs.Order.{is_plain}
use Rattle.deb_version.proofs.parts.plain_len.Given as goal

abbrev pub invariant-loop-i : goal.invariant-loop-i
invariant-loop-i l = (k : ℕ) → k < l.i → is_plain (get_or l.part k 0) ≡ true
