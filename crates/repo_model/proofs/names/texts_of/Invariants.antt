use Rattle.std.proofs.Common.{◌≡◌, map, take}
use Rattle.repo_model.proofs.names.texts_of.Given as goal

abbrev pub invariant-loop-facts : goal.invariant-loop-facts
invariant-loop-facts l = map (λ name. name.now) l.names.items ≡ map (λ facts. facts.name) (take l.facts-index l.packages)
