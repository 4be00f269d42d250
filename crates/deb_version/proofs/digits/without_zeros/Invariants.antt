use Rattle.std.proofs.Common.{◌≡◌, length, drop}
use Rattle.std.specs.{Prelude.{◌==◌}, List.{prefix_len}}
use Rattle.deb_version.proofs.digits.without_zeros.Given as goal

abbrev pub invariant-loop-rest : goal.invariant-loop-rest
invariant-loop-rest l = drop (prefix_len (λ c. c == 48) l.rest) l.rest ≡ drop (prefix_len (λ c. c == 48) l.digits) l.digits

abbrev pub decreases-loop-rest : goal.decreases-loop-rest
decreases-loop-rest l = length l.rest
