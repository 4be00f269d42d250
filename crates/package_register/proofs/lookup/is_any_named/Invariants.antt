use Rattle.std.proofs.Common.{◌≡◌, false, take}
use Rattle.std.specs.List.{list_any}
use Rattle.package_register.specs.{Numbers.{passes_at}, Registers.{has_name}}
use Rattle.package_register.proofs.lookup.is_any_named.Given as goal

abbrev pub invariant-loop-number : goal.invariant-loop-number
invariant-loop-number g l = list_any (passes_at (has_name g.T.Named.name_of l.name) l.items) (take l.number-index l.numbers) ≡ false
