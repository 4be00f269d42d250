use Rattle.std.proofs.Common.{◌≡◌, ◌≢◌, ◌+◌, ◌/◌, ◌^◌, ◌++◌, ◌<◌, ◌≤◌, ℕ, ap, arith, drop, length, subst, sym, take, ◌∙◌}
use Rattle.row_book.proofs.Users.{lent_whole}
use Rattle.clause_flatten.specs.{LeastTree.{node, IsTree}, Waiting.{never, turn}}
use Rattle.clause_flatten.proofs.{Leaves.{leaf_at, leaf_count}, Turns.{turn_kept}}
use Rattle.clause_flatten.proofs.waiting.Waiting.file.Goals as goal
use Rattle.clause_flatten.proofs.waiting.Waiting.file.Goals.{After-put_leaf}

half : (size depth : ℕ) → size ≡ 2 ^ depth + 2 ^ depth → size / 2 ≡ 2 ^ depth
half size depth e = omega arith

leaves : (c : After-put_leaf) → c.len-leaves.result / 2 ≡ 2 ^ c.self.inside.depth
leaves c = half c.len-leaves.result c.self.inside.depth (c.len-leaves.ensures ∙ c.self.inside.nodes.ok.0 ∙ c.self.invariant.0.size)

-- the nodes that were lent come back whole
whole : (c : After-put_leaf) → take c.self.inside.nodes.len (c.put_leaf.new.nodes ++ drop (length c.put_leaf.new.nodes) c.self.inside.nodes.items) ≡ c.put_leaf.new.nodes
whole c =
    lent_whole c.self.inside.nodes.len c.put_leaf.new.nodes c.self.inside.nodes.items (c.put_leaf.auto.nodes ∙ ap length c.as_mut_slice.ensures.value) c.self.inside.nodes.ok.0

tree : (c : After-put_leaf) → IsTree c.put_leaf.new.nodes (2 ^ c.self.inside.depth)
tree c = subst (IsTree c.put_leaf.new.nodes) (leaves c) c.put_leaf.ensures.tree

pub put_leaf-requires-clause-tree : goal.put_leaf-requires-clause-tree
put_leaf-requires-clause-tree c =
    subst (λ n. IsTree c.as_mut_slice.result.now n) (sym (half c.len-leaves.result c.self.inside.depth (c.len-leaves.ensures ∙ c.self.inside.nodes.ok.0 ∙ c.self.invariant.0.size)))
    (subst (λ xs. IsTree xs (2 ^ c.self.inside.depth)) (sym c.as_mut_slice.ensures.value) c.self.invariant.0)

pub invariant_of-self : goal.invariant_of-self
invariant_of-self c =
    let p = (goal.at.invariant_of-self c).After-put_leaf in
    (subst (λ xs. IsTree xs (2 ^ c.self.inside.depth)) (sym (whole p)) (tree p), c.self.invariant.1)

pub returns-clause-room : goal.returns-clause-room
returns-clause-room c =
    let p = (goal.at.returns-clause-room c).After-put_leaf in
    ap (λ xs. length (drop (2 ^ c.self.inside.depth) xs)) (whole p) ∙ leaf_count c.put_leaf.new.nodes (2 ^ c.self.inside.depth) (tree p)
    ∙ sym (leaf_count c.self.inside.nodes.items (2 ^ c.self.inside.depth) c.self.invariant.0) ∙ ap length c.self.view_is

pub returns-clause-here : goal.returns-clause-here
returns-clause-here c =
    let p = (goal.at.returns-clause-here c).After-put_leaf in
    let size : length c.args.self.now ≡ 2 ^ c.self.inside.depth =
    ap length (sym c.self.view_is) ∙ leaf_count c.self.inside.nodes.items (2 ^ c.self.inside.depth) c.self.invariant.0 in
    ap (λ xs. turn (drop (2 ^ c.self.inside.depth) xs) c.args.number) (whole p)
    ∙ leaf_at c.put_leaf.new.nodes (2 ^ c.self.inside.depth) never c.args.number (tree p) (subst (λ n. c.args.number < n) size c.requires)
    ∙ subst (λ n. node c.put_leaf.new.nodes (n + c.args.number) ≡ c.args.clauses) (leaves p) c.put_leaf.ensures.here

pub returns-clause-others : goal.returns-clause-others
returns-clause-others c = λ q ne.
    let p = (goal.at.returns-clause-others c).After-put_leaf in
    let others : (i : ℕ) → 2 ^ c.self.inside.depth ≤ i → i ≢ 2 ^ c.self.inside.depth + c.args.number → node c.put_leaf.new.nodes i ≡ node c.as_mut_slice.result.now i =
    subst (λ n. (i : ℕ) → n ≤ i → i ≢ n + c.args.number → node c.put_leaf.new.nodes i ≡ node c.as_mut_slice.result.now i) (leaves p) c.put_leaf.ensures.others in
    ap (λ xs. turn (drop (2 ^ c.self.inside.depth) xs) q) (whole p)
    ∙ turn_kept c.self.inside.nodes.items c.put_leaf.new.nodes (2 ^ c.self.inside.depth) c.args.number c.self.invariant.0 (tree p)
    (λ i l d. others i l d ∙ ap (λ xs. node xs i) c.as_mut_slice.ensures.value) q ne
    ∙ ap (λ xs. turn xs q) c.self.view_is
