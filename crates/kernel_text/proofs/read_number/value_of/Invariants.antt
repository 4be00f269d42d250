use Rattle.std.proofs.Common.{◌≡◌, ◌<◌, ◌^◌, take}
use Rattle.deb_version.specs.Order.{number}
use Rattle.kernel_text.proofs.read_number.value_of.Given as goal

abbrev pub invariant-loop-digit : goal.invariant-loop-digit
invariant-loop-digit l = (l.value ≡ number (take l.digit-index l.digits)) × (l.value < 10 ^ l.digit-index)
