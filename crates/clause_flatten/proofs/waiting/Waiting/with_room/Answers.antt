use Rattle.std.proofs.Common.{◌≡◌, ◌≤◌, ◌^◌, length, drop, arith}
use Rattle.clause_flatten.specs.Waiting.{never}
use Rattle.clause_flatten.proofs.Leaves.{leaf_count, tree_made}
use Rattle.clause_flatten.proofs.waiting.Waiting.with_room.Goals as goal

pub invariant_of-result : goal.invariant_of-result
invariant_of-result c = (tree_made c.in_ok-nodes.nodes.items never c.depth_for-depth.result c.in_ok-nodes.ensures c.depth_for-depth.ensures.few, c.depth_for-depth.ensures.few)

pub returns-clause-room : goal.returns-clause-room
returns-clause-room c =
    let count : length (drop (2 ^ c.depth_for-depth.result) c.in_ok-nodes.nodes.items) ≡ 2 ^ c.depth_for-depth.result =
    leaf_count c.in_ok-nodes.nodes.items (2 ^ c.depth_for-depth.result) (tree_made c.in_ok-nodes.nodes.items never c.depth_for-depth.result c.in_ok-nodes.ensures c.depth_for-depth.ensures.few) in
    let room : c.args.packages ≤ 2 ^ c.depth_for-depth.result = c.depth_for-depth.ensures.room in
    omega arith
