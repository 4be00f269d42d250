use Rattle.std.proofs.Common.{◌≡◌, ◌++◌, filter, take}
use Rattle.relation_fields.specs.Meeting.{meets}
use Rattle.package_register.specs.Numbers.{passes_at}
use Rattle.virtual_provides.proofs.names.put_met.Given as goal

abbrev pub invariant-loop-number : goal.invariant-loop-number
invariant-loop-number l = l.found.items ≡ l.initial.found.items ++ filter (passes_at (λ facts. meets l.atom facts l.home) l.packages) (take l.number-index l.numbers)
