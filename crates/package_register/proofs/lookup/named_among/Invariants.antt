use Rattle.std.proofs.Common.{◌≡◌, filter, take}
use Rattle.package_register.specs.{Numbers.{passes_at}, Registers.{has_name}}
use Rattle.package_register.proofs.lookup.named_among.Given as goal

abbrev pub invariant-loop-number : goal.invariant-loop-number
invariant-loop-number g l = l.found.items ≡ filter (passes_at (has_name g.T.Named.name_of l.name) l.items) (take l.number-index l.numbers)
