-- Trees of least numbers: what a step upwards mends, and what a step downwards finds.
use Rattle.std.proofs.Common.{◌≡◌, ◌≢◌, ℕ, ◌+◌, ◌-◌, ◌*◌, ◌/◌, ◌^◌, ◌<◌, ◌≤◌, min, List, length, get_or, drop, replicate, ◌%◌, inl, inr, refl, sym, ◌∙◌, ap}
use Rattle.std.proofs.{Common.{subst, arith, add-one}, Math.ListN.{get_or-eq_default}, Math.Nat.{two-pow-succ}, Math.Pow.{pow_mono}, lemmas.Bool.{cases_eq}}
use Rattle.std.proofs.{lemmas.List.{get_or_default, get_or-drop, get_or-replicate, length-drop, length-replicate}, lemmas.Nat.{pow_pos, shl_whole}}
use Rattle.clause_flatten.specs.LeastTree.{node, IsTree}

-- a number was put at a leaf, and all nodes but the one above a place have the lesser of the two below them
pub record IsMended (old : List ℕ) (leaves leaf number : ℕ) (nodes : List ℕ) (place : ℕ) : Type 0 where
  pub size : length nodes ≡ leaves + leaves
  pub some : 0 < place
  pub low : place < leaves + leaves
  pub here : node nodes leaf ≡ number
  pub others : (i : ℕ) → leaves ≤ i → i ≢ leaf → node nodes i ≡ node old i
  pub least : (i : ℕ) → 0 < i → i < leaves → i ≢ place / 2 → node nodes i ≡ min (node nodes (i * 2)) (node nodes (i * 2 + 1))

-- the way down from the root to the first of the least leaves: no node of the level has less than the root, and none before the place as little
pub record IsWayDown (nodes : List ℕ) (level place : ℕ) : Type 0 where
  pub low : 2 ^ level ≤ place
  pub high : place < 2 ^ level + 2 ^ level
  pub same : node nodes place ≡ node nodes 1
  pub before : (i : ℕ) → 2 ^ level ≤ i → i < place → node nodes 1 < node nodes i
  pub least : (i : ℕ) → 2 ^ level ≤ i → i < 2 ^ level + 2 ^ level → node nodes 1 ≤ node nodes i

pub way_first : (nodes : List ℕ) → IsWayDown nodes 0 1
way_first nodes = record {
  low = omega arith;
  high = omega arith;
  same = refl;
  before = λ i l h. absurd (omega arith);
  least = λ i l h. let e : i ≡ 1 = omega arith in let s : node nodes i ≡ node nodes 1 = ap (node nodes) e in omega arith;
}

-- a node has no more than those below it
lower : (nodes : List ℕ) (leaves i : ℕ) → IsTree nodes leaves → 1 < i → i < leaves + leaves → node nodes (i / 2) ≤ node nodes i
lower nodes leaves i t l h =
    let e : node nodes (i / 2) ≡ min (node nodes (i / 2 * 2)) (node nodes (i / 2 * 2 + 1)) = t.least (i / 2) (omega arith) (omega arith) in
    elim (cases_eq i (i / 2 * 2)) [
      | inl s ↦ let k : node nodes i ≡ node nodes (i / 2 * 2) = ap (node nodes) s in omega arith
      | inr o ↦ let k : node nodes i ≡ node nodes (i / 2 * 2 + 1) = ap (node nodes) (omega arith) in omega arith
    ]

grown : (n : ℕ) → 2 ^ (n + 1) ≡ 2 ^ n + 2 ^ n
grown n = ap (λ k. 2 ^ k) (add-one n) ∙ two-pow-succ n

module _ (nodes : List ℕ) (depth level place : ℕ) (t : IsTree nodes (2 ^ depth)) (l : level < depth) (w : IsWayDown nodes level place) where
  level_below : 2 ^ level + 2 ^ level ≤ 2 ^ depth
  level_below =
      let e : 2 ^ (level + 1) ≡ 2 ^ level + 2 ^ level = grown level in
      let k : 2 ^ (level + 1) ≤ 2 ^ depth = pow_mono (omega arith) in
      omega arith

  pub way_inside : place < 2 ^ depth
  way_inside = let b : 2 ^ level + 2 ^ level ≤ 2 ^ depth = level_below in let g : place < 2 ^ level + 2 ^ level = w.high in omega arith

  least_below : (i : ℕ) → 2 ^ (level + 1) ≤ i → i < 2 ^ (level + 1) + 2 ^ (level + 1) → node nodes 1 ≤ node nodes i
  least_below i k h =
      let e : 2 ^ (level + 1) ≡ 2 ^ level + 2 ^ level = grown level in
      let b : 2 ^ level + 2 ^ level ≤ 2 ^ depth = level_below in
      let s : 0 < 2 ^ level = pow_pos level in
      let u : node nodes (i / 2) ≤ node nodes i = lower nodes (2 ^ depth) i t (omega arith) (omega arith) in
      let v : node nodes 1 ≤ node nodes (i / 2) = w.least (i / 2) (omega arith) (omega arith) in
      omega arith

  before_below : (i : ℕ) → 2 ^ (level + 1) ≤ i → i < place * 2 → node nodes 1 < node nodes i
  before_below i k h =
      let e : 2 ^ (level + 1) ≡ 2 ^ level + 2 ^ level = grown level in
      let b : 2 ^ level + 2 ^ level ≤ 2 ^ depth = level_below in
      let s : 0 < 2 ^ level = pow_pos level in
      let g : place < 2 ^ level + 2 ^ level = w.high in
      let u : node nodes (i / 2) ≤ node nodes i = lower nodes (2 ^ depth) i t (omega arith) (omega arith) in
      let v : node nodes 1 < node nodes (i / 2) = w.before (i / 2) (omega arith) (omega arith) in
      omega arith

  pub way_left : node nodes (place * 2) ≡ node nodes 1 → IsWayDown nodes (level + 1) (place * 2)
  way_left f =
      let e : 2 ^ (level + 1) ≡ 2 ^ level + 2 ^ level = grown level in
      let g : place < 2 ^ level + 2 ^ level = w.high in
      let k : 2 ^ level ≤ place = w.low in
      record {
        low = omega arith;
        high = omega arith;
        same = f;
        before = before_below;
        least = least_below;
      }

  pub way_right : node nodes (place * 2) ≢ node nodes 1 → IsWayDown nodes (level + 1) (place * 2 + 1)
  way_right f =
      let e : 2 ^ (level + 1) ≡ 2 ^ level + 2 ^ level = grown level in
      let b : 2 ^ level + 2 ^ level ≤ 2 ^ depth = level_below in
      let g : place < 2 ^ level + 2 ^ level = w.high in
      let k : 2 ^ level ≤ place = w.low in
      let s : 0 < 2 ^ level = pow_pos level in
      let here : node nodes place ≡ node nodes 1 = w.same in
      let both : node nodes place ≡ min (node nodes (place * 2)) (node nodes (place * 2 + 1)) = t.least place (omega arith) (omega arith) in
      record {
        low = omega arith;
        high = omega arith;
        same = omega arith;
        before = λ i u v. elim (cases_eq i (place * 2)) [
          | inl a ↦
              let c : node nodes i ≡ node nodes (place * 2) = ap (node nodes) a in
              let d : node nodes 1 ≤ node nodes i = least_below i u (omega arith) in
              omega arith
          | inr a ↦ before_below i u (omega arith)
        ];
        least = least_below;
      }

-- the leaves, and nothing behind them
pub leaf_at : (nodes : List ℕ) (leaves d q : ℕ) → IsTree nodes leaves → q < leaves → get_or (drop leaves nodes) q d ≡ node nodes (leaves + q)
leaf_at nodes leaves d q t l =
    let size : length nodes ≡ leaves + leaves = t.size in get_or-drop leaves nodes q d ∙ get_or_default nodes (leaves + q) d 0 (omega arith)

pub leaf_behind : (nodes : List ℕ) (leaves d q : ℕ) → IsTree nodes leaves → leaves ≤ q → get_or (drop leaves nodes) q d ≡ d
leaf_behind nodes leaves d q t l =
    let size : length nodes ≡ leaves + leaves = t.size in get_or-drop leaves nodes q d ∙ get_or-eq_default nodes d (omega arith)

pub leaf_count : (nodes : List ℕ) (leaves : ℕ) → IsTree nodes leaves → length (drop leaves nodes) ≡ leaves
leaf_count nodes leaves t = let size : length nodes ≡ leaves + leaves = t.size in let left : length (drop leaves nodes) ≡ length nodes - leaves = length-drop leaves nodes in omega arith

-- a tree in which all numbers are equal
tree_of_one : (n leaves : ℕ) → IsTree (replicate (leaves + leaves) n) leaves
tree_of_one n leaves =
    let at : (i : ℕ) → i < leaves + leaves → node (replicate (leaves + leaves) n) i ≡ n = λ i l. get_or-replicate (leaves + leaves) i n 0 l in
    record {
      size = length-replicate (leaves + leaves) n;
      least = λ i s l.
          let a : node (replicate (leaves + leaves) n) i ≡ n = at i (omega arith) in
          let b : node (replicate (leaves + leaves) n) (i * 2) ≡ n = at (i * 2) (omega arith) in
          let c : node (replicate (leaves + leaves) n) (i * 2 + 1) ≡ n = at (i * 2 + 1) (omega arith) in
          omega arith;
    }

pub tree_made : (nodes : List ℕ) (n depth : ℕ) → nodes ≡ replicate ((2 * 2 ^ depth) % 2 ^ 64) n → depth ≤ 32 → IsTree nodes (2 ^ depth)
tree_made nodes n depth e l =
    let whole : (2 * 2 ^ depth) % 2 ^ 64 ≡ 2 * 2 ^ depth = shl_whole 2 2 depth 64 (omega arith) (omega arith) in
    let size : (2 * 2 ^ depth) % 2 ^ 64 ≡ 2 ^ depth + 2 ^ depth = omega arith in
    subst (λ xs. IsTree xs (2 ^ depth)) (sym (e ∙ ap (λ k. replicate k n) size)) (tree_of_one n (2 ^ depth))
