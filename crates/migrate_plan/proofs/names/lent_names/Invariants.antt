use Rattle.std.proofs.Common.{◌≡◌, ◌++◌, map, take}
use Rattle.migrate_plan.proofs.names.lent_names.Given as goal

abbrev pub invariant-loop-facts : goal.invariant-loop-facts
invariant-loop-facts l = map (λ name. name.now) l.names.items ≡ map (λ facts. facts.name) (take l.facts-index l.old)

abbrev pub invariant-loop-package : goal.invariant-loop-package
invariant-loop-package l = map (λ name. name.now) l.names.items ≡ map (λ facts. facts.name) l.fn.old ++ map (λ facts. facts.name) (take l.package-index l.new)
