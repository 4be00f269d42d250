use Rattle.std.proofs.Common.{◌≡◌, ◌++◌, drop}
use Rattle.clause_families.specs.Branches.{chain}
use Rattle.clause_families.proofs.family_tree.push_chain.Given as goal

abbrev pub invariant-loop-index : goal.invariant-loop-index
invariant-loop-index l = l.nodes.items ≡ l.fn.nodes.items ++ chain l.place l.place 0 (drop l.index l.numbers)
