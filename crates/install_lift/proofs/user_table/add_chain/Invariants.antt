use Rattle.std.proofs.Common.{◌≡◌, ◌≤◌, ◌++◌, length}
use Rattle.install_lift.specs.Chains.{chain}
use Rattle.install_lift.proofs.user_table.add_chain.Given as goal

abbrev pub invariant-loop-left : goal.invariant-loop-left
invariant-loop-left l = record {
  within : l.left ≤ length l.entries;
  same : l.list.items ++ chain (length l.entries) l.entries l.left ≡ l.initial.list.items ++ chain (length l.entries) l.entries l.initial.left;
}

abbrev pub decreases-loop-left : goal.decreases-loop-left
decreases-loop-left l = l.left
