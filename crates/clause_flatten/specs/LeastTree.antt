-- for the bodies of this crate alone
-- Numbers as the leaves of a tree in one list. Below the node at a place stand those at twice the
-- place and at the place after that. Each node has the lesser of the two below it, and there is
-- nothing at the place 0.
use Rattle.std.specs.Prelude.{◌≡◌, ℕ, ◌+◌, ◌*◌, ◌<◌, ◌≤◌, min, List, length, slice_index}

-- the number at a place
abbrev pub node : List ℕ → ℕ → ℕ
node nodes i = slice_index nodes i

-- a tree with this number of leaves, which stand after the other nodes
pub record IsTree (nodes : List ℕ) (leaves : ℕ) : Type 0 where
  pub size : length nodes ≡ leaves + leaves
  pub least : (i : ℕ) → 0 < i → i < leaves →
      node nodes i ≡ min (node nodes (i * 2)) (node nodes (i * 2 + 1))

-- the first of the leaves that have the least number
pub record IsFirstLeast (nodes : List ℕ) (leaves n : ℕ) : Type 0 where
  pub there : n < leaves
  pub before : (m : ℕ) → m < n → node nodes (leaves + n) < node nodes (leaves + m)
  pub least : (m : ℕ) → m < leaves → node nodes (leaves + n) ≤ node nodes (leaves + m)
