use Rattle.std.proofs.Common.{◌≡◌, filter, take}
use Rattle.package_register.specs.{Numbers.{passes_at}, Registers.{is_version_of}}
use Rattle.package_register.proofs.lookup.equal_in.Given as goal

abbrev pub invariant-loop-number : goal.invariant-loop-number
invariant-loop-number g l = l.found.items ≡ filter (passes_at (is_version_of g.T.Named.name_of g.T.Named.version_of l.name l.version) l.items) (take l.number-index l.numbers)
