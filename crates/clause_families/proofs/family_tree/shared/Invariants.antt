use Rattle.std.proofs.Common.{◌≡◌, ◌+◌, length}
use Rattle.clause_families.specs.Branches.{nodes_of, Tree}
use Rattle.clause_families.proofs.Grown.{Meeting}
use Rattle.clause_families.proofs.family_tree.shared.Given as goal

abbrev pub invariant-loop-count : goal.invariant-loop-count
invariant-loop-count l = record {
  there_are : l.count + length l.left ≡ length l.nodes;
  still : (tree : Tree) → l.nodes ≡ nodes_of 0 tree → Meeting l.clause tree l.from l.left l.count;
}
