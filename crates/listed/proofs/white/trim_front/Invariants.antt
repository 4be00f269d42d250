use Rattle.std.proofs.Common.{◌≡◌, ℕ, ◌<◌, true, get_or}
use Rattle.listed.specs.Texts.{is_white_byte}
use Rattle.listed.proofs.white.trim_front.Given as goal

abbrev pub invariant-loop-start : goal.invariant-loop-start
invariant-loop-start l = (k : ℕ) → k < l.start → is_white_byte (get_or l.text k 0) ≡ true
