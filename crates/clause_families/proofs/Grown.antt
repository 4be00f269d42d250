-- A tree of clauses grows by one that comes before those in it.
use Rattle.std.proofs.Common.{◌≡◌, ℕ, zero, suc, ◌<◌, ◌≤◌, ◌+◌, ◌-◌, Bool, true, false, ◌||◌, eqb, cond, List, [], ◌∷◌, ◌++◌, refl, sym, ◌∙◌, ap, ap₂, subst}
use Rattle.std.proofs.Common.{length, get_or, set, take, drop, drop-cons, add-one, eq-eqb, ne_eqb, append_assoc, length-append, length-drop, arith}
use Rattle.std.proofs.{lemmas.Bool.{cond-true, cond-false}, Math.Seq.{drop-append_seam}}
use Rattle.std.proofs.lemmas.List.{append-nil, drop-append-le, take-append-le, length-take-le}
use Rattle.clause_families.specs.Branches.{bare, begin_of, branch, chain, is_empty, no_leap, nodes_of, past, shared, size_of, with_clause, Grows, Leap, Leaps}
use Rattle.clause_families.specs.{Branches.{Tree}, declared.family_tree.Node.{Node}}
use Rattle.clause_families.proofs.Walked.{first_leaps, front_again, is_bare, parted, past_front, past_more, size_is, take_front, Front, Parts}

abbrev node_of : ℕ → ℕ → ℕ → ℕ → Bool → Node
node_of n place far rank b = record { number = n; start = place; far = far; rank = rank; ends = b }

-- the first node, with the end of a clause
abbrev pub marked : List Node → List Node
marked [] = []
marked (x ∷ xs) = record { number = x.number; start = x.start; far = x.far; rank = x.rank; ends = true } ∷ xs

marked_more : (xs ys : List Node) → 0 < length xs → marked (xs ++ ys) ≡ marked xs ++ ys
marked_more [] ys l = absurd (omega arith)
marked_more (x ∷ xs) ys l = refl

chain_length : (place far rank : ℕ) (ns : List ℕ) → length (chain place far rank ns) ≡ length ns
chain_length place far rank [] = refl
chain_length place far rank (n ∷ ns) =
    length-append (chain place place 0 ns) (node_of n place far rank false ∷ []) ∙ (let k : length (chain place place 0 ns) ≡ length ns = chain_length place place 0 ns in omega arith)

-- the nodes of one clause alone
alone_nodes : (place far rank n : ℕ) (ns : List ℕ) → nodes_of place (with_clause no_leap ns bare) ++ (node_of n place far rank (is_empty ns) ∷ []) ≡ marked (chain place far rank (n ∷ ns))
alone_nodes place far rank n [] = refl
alone_nodes place far rank n (m ∷ ms) =
    let zero_more : place + 0 ≡ place = omega arith in
    let some : 0 < length (chain place place 0 (m ∷ ms)) = omega (arith, chain_length place place 0 (m ∷ ms)) in
    ap (λ z. (nodes_of z (with_clause no_leap ms bare) ++ (node_of m z z 0 (is_empty ms) ∷ [])) ++ (node_of n place far rank false ∷ [])) zero_more
    ∙ ap (λ xs. xs ++ (node_of n place far rank false ∷ [])) (alone_nodes place place 0 m ms)
    ∙ sym (marked_more (chain place place 0 (m ∷ ms)) (node_of n place far rank false ∷ []) some)

-- the nodes that a clause does not share with the first one of the tree, and those that it does
front_of : ℕ → List ℕ → Tree → List Node
front_of from [] tree = nodes_of from tree
front_of from (n ∷ ns) bare = []
front_of from (n ∷ ns) (branch m leap ends below beside) =
    cond (eqb n m) (nodes_of from beside ++ front_of (from + size_of beside) ns below) (nodes_of from (branch m leap ends below beside))

path_of : ℕ → List ℕ → Tree → List Node
path_of from [] tree = []
path_of from (n ∷ ns) bare = []
path_of from (n ∷ ns) (branch m leap ends below beside) =
    cond (eqb n m) (path_of (from + size_of beside) ns below ++ (node_of m (from + size_of beside) (from + size_of (past leap.over beside)) leap.rank ends ∷ [])) []

cut : (from : ℕ) (c : List ℕ) (tree : Tree) → nodes_of from tree ≡ front_of from c tree ++ path_of from c tree
unfolding front_of path_of
cut from [] tree = sym (append-nil (nodes_of from tree))
cut from (n ∷ ns) bare = refl
cut from (n ∷ ns) (branch m leap ends below beside) = pick (eqb n m) (cut (from + size_of beside) ns below)
  where
    pick : (b : Bool) → nodes_of (from + size_of beside) below ≡ front_of (from + size_of beside) ns below ++ path_of (from + size_of beside) ns below → nodes_of from (branch m leap ends below beside)
        ≡ cond b (nodes_of from beside ++ front_of (from + size_of beside) ns below) (nodes_of from (branch m leap ends below beside))
        ++ cond b (path_of (from + size_of beside) ns below ++ (node_of m (from + size_of beside) (from + size_of (past leap.over beside)) leap.rank ends ∷ [])) []
    pick true again =
        let side : List Node = nodes_of from beside in
        let first : List Node = front_of (from + size_of beside) ns below in
        let last : List Node = node_of m (from + size_of beside) (from + size_of (past leap.over beside)) leap.rank ends ∷ [] in
        let path : List Node = path_of (from + size_of beside) ns below in
        ap (λ xs. side ++ (xs ++ last)) again
        ∙ ap (λ xs. side ++ xs) (append_assoc first path last)
        ∙ sym (append_assoc side first (path ++ last))
    pick false again = sym (append-nil (nodes_of from (branch m leap ends below beside)))

path_length : (from : ℕ) (c : List ℕ) (tree : Tree) → length (path_of from c tree) ≡ shared c tree
unfolding path_of
path_length from [] tree = refl
path_length from (n ∷ ns) bare = refl
path_length from (n ∷ ns) (branch m leap ends below beside) = pick (eqb n m) (path_length (from + size_of beside) ns below)
  where
    pick : (b : Bool) → length (path_of (from + size_of beside) ns below) ≡ shared ns below → length (cond b (path_of (from + size_of beside) ns below ++ (node_of m (from + size_of beside) (from + size_of (past leap.over beside)) leap.rank ends ∷ [])) []) ≡ cond b (suc (shared ns below)) 0
    pick true again =
        length-append (path_of (from + size_of beside) ns below) (node_of m (from + size_of beside) (from + size_of (past leap.over beside)) leap.rank ends ∷ [])
        ∙ omega arith
    pick false again = refl

joined : (side first path own : List Node) (from place far rank : ℕ) (rest : List ℕ) → place ≡ from + length side → 0 < length (chain (place + length first) far rank rest ++ path) →
    side ++ ((first ++ marked (chain (place + length first) far rank rest ++ path)) ++ own) ≡ (side ++ first) ++ marked (chain (from + length (side ++ first)) far rank rest ++ (path ++ own))
joined side first path own from place far rank rest at some =
    let new : List Node = chain (place + length first) far rank rest in
    let there_is : place + length first ≡ from + length (side ++ first) = omega (arith, length-append side first) in
    ap (λ xs. side ++ xs) (append_assoc first (marked (new ++ path)) own)
    ∙ sym (append_assoc side first (marked (new ++ path) ++ own))
    ∙ ap (λ xs. (side ++ first) ++ xs)
    (sym (marked_more (new ++ path) own some) ∙ ap marked (append_assoc new path own) ∙ ap (λ z. marked (chain z far rank rest ++ (path ++ own))) there_is)

-- the place to which a clause leaps where it parts from the first of the tree
far_at : Leap → ℕ → List ℕ → Tree → ℕ
far_at given from [] tree = from + size_of (past given.over tree)
far_at given from (n ∷ ns) bare = from + size_of (past given.over bare)
far_at given from (n ∷ ns) (branch m leap ends below beside) =
    cond (eqb n m) (far_at given (from + size_of beside) ns below) (from + size_of (past given.over (branch m leap ends below beside)))

-- the nodes with one clause more
grown : (given : Leap) (from : ℕ) (c : List ℕ) (tree : Tree) → 0 < length c → nodes_of from (with_clause given c tree)
    ≡ front_of from c tree ++ marked (chain (from + length (front_of from c tree)) (far_at given from c tree) given.rank (drop (shared c tree) c) ++ path_of from c tree)
unfolding front_of path_of far_at
grown given from [] tree l = absurd (omega arith)
grown given from (n ∷ ns) bare l =
    let far : ℕ = from + size_of (past given.over bare) in
    ap (λ z. nodes_of z (with_clause no_leap ns bare) ++ (node_of n z far given.rank (is_empty ns) ∷ [])) (let e : from + 0 ≡ from = omega arith in e)
    ∙ alone_nodes from far given.rank n ns
    ∙ ap (λ z. marked (chain z far given.rank (n ∷ ns))) (let e : from ≡ from + 0 = omega arith in e)
    ∙ ap marked (sym (append-nil (chain (from + 0) far given.rank (n ∷ ns))))
grown given from (n ∷ ns) (branch m leap ends below beside) l = pick (eqb n m) (grown given (from + size_of beside) ns below)
  where
    met : (rest : List ℕ) → (0 < length rest → nodes_of (from + size_of beside) (with_clause given rest below)
        ≡ front_of (from + size_of beside) rest below
        ++ marked (chain (from + size_of beside + length (front_of (from + size_of beside) rest below)) (far_at given (from + size_of beside) rest below) given.rank (drop (shared rest below) rest) ++ path_of (from + size_of beside) rest below)) →
        nodes_of from (branch m leap (is_empty rest || ends) (with_clause given rest below) beside)
        ≡ (nodes_of from beside ++ front_of (from + size_of beside) rest below)
        ++ marked (chain (from + length (nodes_of from beside ++ front_of (from + size_of beside) rest below)) (far_at given (from + size_of beside) rest below) given.rank (drop (shared rest below) rest)
        ++ (path_of (from + size_of beside) rest below ++ (node_of m (from + size_of beside) (from + size_of (past leap.over beside)) leap.rank ends ∷ [])))
    met [] again = sym (append_assoc (nodes_of from beside) (nodes_of (from + size_of beside) below) (node_of m (from + size_of beside) (from + size_of (past leap.over beside)) leap.rank true ∷ []))
    met (x ∷ xs) again =
        let place : ℕ = from + size_of beside in
        let first : List Node = front_of (from + size_of beside) (x ∷ xs) below in
        let path : List Node = path_of (from + size_of beside) (x ∷ xs) below in
        let rest : List ℕ = drop (shared (x ∷ xs) below) (x ∷ xs) in
        let far : ℕ = far_at given (from + size_of beside) (x ∷ xs) below in
        let own : List Node = node_of m (from + size_of beside) (from + size_of (past leap.over beside)) leap.rank ends ∷ [] in
        let some : 0 < length (chain (place + length first) far given.rank rest ++ path) =
        omega (
          arith,
          length-append (chain (place + length first) far given.rank rest) path,
          chain_length (place + length first) far given.rank rest,
          length-drop (shared (x ∷ xs) below) (x ∷ xs),
          path_length (from + size_of beside) (x ∷ xs) below,
        ) in
        ap (λ xs. nodes_of from beside ++ (xs ++ own)) (again (omega arith))
        ∙ joined (nodes_of from beside) first path own from place far given.rank rest (ap (λ k. from + k) (sym (size_is from beside))) some

    pick : (b : Bool) → (0 < length ns → nodes_of (from + size_of beside) (with_clause given ns below)
        ≡ front_of (from + size_of beside) ns below
        ++ marked (chain (from + size_of beside + length (front_of (from + size_of beside) ns below)) (far_at given (from + size_of beside) ns below) given.rank (drop (shared ns below) ns) ++ path_of (from + size_of beside) ns below)) →
        nodes_of from (cond b (branch m leap (is_empty ns || ends) (with_clause given ns below) beside) (branch n given (is_empty ns) (with_clause no_leap ns bare) (branch m leap ends below beside)))
        ≡ cond b (nodes_of from beside ++ front_of (from + size_of beside) ns below) (nodes_of from (branch m leap ends below beside))
        ++ marked (chain (from + length (cond b (nodes_of from beside ++ front_of (from + size_of beside) ns below) (nodes_of from (branch m leap ends below beside))))
        (cond b (far_at given (from + size_of beside) ns below) (from + size_of (past given.over (branch m leap ends below beside)))) given.rank (drop (cond b (suc (shared ns below)) 0) (n ∷ ns))
        ++ cond b (path_of (from + size_of beside) ns below ++ (node_of m (from + size_of beside) (from + size_of (past leap.over beside)) leap.rank ends ∷ [])) [])
    pick false again =
        let own : Tree = branch m leap ends below beside in
        let far : ℕ = from + size_of (past given.over (branch m leap ends below beside)) in
        let place : from + size_of own ≡ from + length (nodes_of from own) = ap (λ k. from + k) (sym (size_is from own)) in
        ap (λ xs. nodes_of from own ++ xs)
        (alone_nodes (from + size_of own) far given.rank n ns
        ∙ ap (λ z. marked (chain z far given.rank (n ∷ ns))) place
        ∙ ap marked (sym (append-nil (chain (from + length (nodes_of from own)) far given.rank (n ∷ ns)))))
    pick true again = met ns again

-- the clause begins so far like the first of the tree, and goes on like that of what is left
pub record Meeting (clause : List ℕ) (tree : Tree) (from : ℕ) (left : List Node) (count : ℕ) : Type 0 where
  pub now : Tree
  pub front : List Node
  pub at : length front ≡ from
  pub is : left ≡ front ++ nodes_of from now
  pub same : shared clause tree ≡ count + shared (drop count clause) now
  pub begin : begin_of 0 clause tree ≡ begin_of from (drop count clause) now

shared_bare : (c : List ℕ) → shared c bare ≡ 0
shared_bare [] = refl
shared_bare (n ∷ ns) = refl

begin_bare : (from : ℕ) (c : List ℕ) → begin_of from c bare ≡ from
begin_bare from [] = refl
begin_bare from (n ∷ ns) = refl

module _ (clause : List ℕ) (tree : Tree) (from : ℕ) (left : List Node) (count : ℕ) (m : Meeting clause tree from left count) where
  pub meets_no_more : length left ≤ from → count ≡ shared clause tree
  meets_no_more few =
      let all : length left ≡ length m.front + length (nodes_of from m.now) = ap length m.is ∙ length-append m.front (nodes_of from m.now) in
      let size : length (nodes_of from m.now) ≡ size_of m.now = size_is from m.now in
      let front : length m.front ≡ from = m.at in
      let none : shared (drop count clause) m.now ≡ 0 = ap (shared (drop count clause)) (is_bare m.now (omega arith)) ∙ shared_bare (drop count clause) in
      omega (arith, m.same)

  pub begins_no_more : length left ≤ from → from ≡ begin_of 0 clause tree
  begins_no_more few =
      let all : length left ≡ length m.front + length (nodes_of from m.now) = ap length m.is ∙ length-append m.front (nodes_of from m.now) in
      let size : length (nodes_of from m.now) ≡ size_of m.now = size_is from m.now in
      let front : length m.front ≡ from = m.at in
      sym (m.begin ∙ ap (begin_of from (drop count clause)) (is_bare m.now (omega arith)) ∙ begin_bare from (drop count clause))

  module _ (others : List Node) (node : Node) (split : left ≡ others ++ (node ∷ [])) (some : from < length left) (below : count < length clause) where
    abbrev parts : Parts from left others node m.now
    parts = parted from m.now m.front left others node m.at m.is some split

    next_shared : shared (drop count clause) m.now ≡ cond (eqb (get_or clause count 0) node.number) (suc (shared (drop (count + 1) clause) parts.below)) 0
    next_shared =
        ap₂ shared (drop-cons clause count 0 below ∙ ap (λ n. get_or clause count 0 ∷ drop n clause) (sym (add-one count))) parts.is

    next_begin : begin_of from (drop count clause) m.now ≡ cond (eqb (get_or clause count 0) node.number) (begin_of (from + size_of parts.beside) (drop (count + 1) clause) parts.below) from
    next_begin =
        ap₂ (begin_of from) (drop-cons clause count 0 below ∙ ap (λ n. get_or clause count 0 ∷ drop n clause) (sym (add-one count))) parts.is

    pub begins_apart : (get_or clause count 0 ≡ node.number → ⊥) → from ≡ begin_of 0 clause tree
    begins_apart f =
        sym (m.begin ∙ next_begin
        ∙ cond-false (eqb (get_or clause count 0) node.number) (begin_of (from + size_of parts.beside) (drop (count + 1) clause) parts.below) from (ne_eqb (get_or clause count 0) node.number f))

    pub meets_apart : (get_or clause count 0 ≡ node.number → ⊥) → count ≡ shared clause tree
    meets_apart f =
        let none : shared (drop count clause) m.now ≡ 0 = next_shared ∙ cond-false (eqb (get_or clause count 0) node.number) (suc (shared (drop (count + 1) clause) parts.below)) 0 (ne_eqb (get_or clause count 0) node.number f) in
        omega (arith, m.same)

    pub meets_more : get_or clause count 0 ≡ node.number → Meeting clause tree node.start others (count + 1)
    meets_more e =
        let one : shared (drop count clause) m.now ≡ suc (shared (drop (count + 1) clause) parts.below) =
        next_shared ∙ cond-true (eqb (get_or clause count 0) node.number) (suc (shared (drop (count + 1) clause) parts.below)) 0 (eq-eqb (get_or clause count 0) node.number e) in
        record {
          now = parts.below;
          front = parts.front ++ nodes_of from parts.beside;
          at = parts.place;
          is = parts.behind;
          same = omega (arith, m.same);
          begin = m.begin ∙ next_begin
              ∙ cond-true (eqb (get_or clause count 0) node.number) (begin_of (from + size_of parts.beside) (drop (count + 1) clause) parts.below) from (eq-eqb (get_or clause count 0) node.number e)
              ∙ ap (λ z. begin_of z (drop (count + 1) clause) parts.below) (sym parts.start);
        }

drop_front : (xs ys : List Node) (k : ℕ) → length xs ≡ k → drop k (xs ++ ys) ≡ ys
drop_front [] ys zero e = refl
drop_front [] ys (suc k) e = absurd (omega arith)
drop_front (x ∷ xs) ys zero e = absurd (omega arith)
drop_front (x ∷ xs) ys (suc k) e = drop_front xs ys k (omega arith)

-- the nodes that were put behind the others, turned to their place
pub turned : (old chained : List Node) (place moved : ℕ) → place ≤ length old → moved ≡ length old - place →
    take place (old ++ chained) ++ (drop moved (drop place (old ++ chained)) ++ take moved (drop place (old ++ chained))) ≡ take place old ++ (chained ++ drop place old)
turned old chained place moved within e =
    let size : length (drop place old) ≡ moved = omega (arith, length-drop place old) in
    ap₂ (λ xs ys. xs ++ (drop moved ys ++ take moved ys)) (take-append-le place old chained within) (drop-append-le place old chained within)
    ∙ ap (λ xs. take place old ++ xs)
    (ap₂ (λ xs ys. xs ++ ys) (subst (λ k. drop k (drop place old ++ chained) ≡ chained) size (drop-append_seam (drop place old) chained)) (take_front (drop place old) chained moved size))

set_front : (xs ys : List Node) (k : ℕ) (last : Node) → length xs ≡ k → 0 < length ys → last ≡ get_or (xs ++ ys) k last →
    set (xs ++ ys) k (record { number = last.number; start = last.start; far = last.far; rank = last.rank; ends = true }) ≡ xs ++ marked ys
set_front [] [] k last e l f = absurd (omega arith)
set_front [] (y ∷ ys) zero last e l f = ap (λ z. (record { number = z.number; start = z.start; far = z.far; rank = z.rank; ends = true }) ∷ ys) f
set_front [] (y ∷ ys) (suc k) last e l f = absurd (omega arith)
set_front (x ∷ xs) ys zero last e l f = absurd (omega arith)
set_front (x ∷ xs) ys (suc k) last e l f = ap (λ zs. x ∷ zs) (set_front xs ys k last (omega arith) l f)

-- those among which a clause parts from the first of the tree
parting : List ℕ → Tree → Tree
parting [] tree = tree
parting (n ∷ ns) bare = bare
parting (n ∷ ns) (branch m leap ends below beside) = cond (eqb n m) (parting ns below) (branch m leap ends below beside)

far_is : (given : Leap) (from : ℕ) (c : List ℕ) (tree : Tree) → far_at given from c tree ≡ begin_of from c tree + size_of (past given.over (parting c tree))
unfolding far_at parting
far_is given from [] tree = refl
far_is given from (n ∷ ns) bare = refl
far_is given from (n ∷ ns) (branch m leap ends below beside) = pick (eqb n m) (far_is given (from + size_of beside) ns below)
  where
    pick : (b : Bool) → far_at given (from + size_of beside) ns below ≡ begin_of (from + size_of beside) ns below + size_of (past given.over (parting ns below)) →
        cond b (far_at given (from + size_of beside) ns below) (from + size_of (past given.over (branch m leap ends below beside)))
        ≡ cond b (begin_of (from + size_of beside) ns below) from + size_of (past given.over (cond b (parting ns below) (branch m leap ends below beside)))
    pick true again = again
    pick false again = refl

-- the nodes that a clause does not share end with those among which it parts
record Ending (from : ℕ) (tree : Tree) (nodes : List Node) : Type 0 where
  front : List Node
  at : length front ≡ from
  is : nodes ≡ front ++ nodes_of from tree

ending : (c : List ℕ) (tree : Tree) (from : ℕ) (front : List Node) → length front ≡ from → Ending (begin_of from c tree) (parting c tree) (front ++ front_of from c tree)
unfolding front_of parting
ending [] tree from front at = record { front = front; at = at; is = refl }
ending (n ∷ ns) bare from front at = record { front = front; at = at; is = refl }
ending (n ∷ ns) (branch m leap ends below beside) from front at =
    pick (eqb n m)
    (subst (Ending (begin_of (from + size_of beside) ns below) (parting ns below)) (append_assoc front (nodes_of from beside) (front_of (from + size_of beside) ns below))
    (ending ns below (from + size_of beside) (front ++ nodes_of from beside) (omega (arith, length-append front (nodes_of from beside), size_is from beside))))
  where
    pick : (b : Bool) → Ending (begin_of (from + size_of beside) ns below) (parting ns below) (front ++ (nodes_of from beside ++ front_of (from + size_of beside) ns below)) →
        Ending (cond b (begin_of (from + size_of beside) ns below) from) (cond b (parting ns below) (branch m leap ends below beside))
        (front ++ cond b (nodes_of from beside ++ front_of (from + size_of beside) ns below) (nodes_of from (branch m leap ends below beside)))
    pick true again = again
    pick false again = record { front = front; at = at; is = refl }

-- a leap over the next one, or over what the first two leaps from there pass
pub leaps_next : (from : ℕ) (tree : Tree) (front nodes : List Node) → length front ≡ from → nodes ≡ front ++ nodes_of from tree → Leaps from tree (length nodes)
leaps_next from tree front nodes at is = record { over = 0; is = ap length is ∙ length-append front (nodes_of from tree) ∙ omega (arith, size_is from tree) }

pub leaps_twice : (from : ℕ) (tree : Tree) (front nodes : List Node) (d : Node) → length front ≡ from → nodes ≡ front ++ nodes_of from tree → from < length nodes →
    from < (get_or nodes (length nodes - 1) d).far → Leaps from tree (get_or nodes ((get_or nodes (length nodes - 1) d).far - 1) d).far
leaps_twice from tree front nodes d at is some more =
    let first : ℕ = (get_or nodes (length nodes - 1) d).far in
    let whole : nodes ≡ (front ++ nodes_of from tree) ++ [] = is ∙ sym (append-nil (front ++ nodes_of from tree)) in
    let size : length nodes ≡ from + size_of tree = ap length is ∙ length-append front (nodes_of from tree) ∙ omega (arith, size_is from tree) in
    let one : Leaps from tree (get_or nodes (length nodes - 1) d).far = first_leaps from front [] nodes d (length nodes) at tree size some whole in
    let f : Front (nodes_of from (past one.over tree)) (nodes_of from tree) = past_front from one.over tree in
    let left : nodes ≡ (front ++ nodes_of from (past one.over tree)) ++ (f.rest ++ []) =
    whole ∙ (ap (λ xs. (front ++ xs) ++ []) f.is ∙ front_again front (nodes_of from (past one.over tree)) f.rest []) in
    let two : Leaps from (past one.over tree) (get_or nodes ((get_or nodes (length nodes - 1) d).far - 1) d).far =
    first_leaps from front (f.rest ++ []) nodes d first at (past one.over tree) one.is more left in
    record { over = one.over + two.over; is = two.is ∙ ap (λ t. from + size_of t) (sym (past_more one.over two.over tree)) }

-- the nodes behind the place are shared, and the clause ends at the place
module _ (c : List ℕ) (tree : Tree) (nodes : List Node) (place : ℕ) (count : place + shared c tree ≡ length nodes) (all : nodes ≡ nodes_of 0 tree) where
  split_there : nodes ≡ front_of 0 c tree ++ path_of 0 c tree
  split_there = all ∙ cut 0 c tree

  place_is : length (front_of 0 c tree) ≡ place
  place_is = let size : length (path_of 0 c tree) ≡ shared c tree = path_length 0 c tree in omega (arith, ap length split_there, length-append (front_of 0 c tree) (path_of 0 c tree))

  -- where the nodes before the place are looked at for a leap
  given_leap : (from far rank : ℕ) → from ≡ begin_of 0 c tree → ((t : Tree) → (front : List Node) → length front ≡ from → take place nodes ≡ front ++ nodes_of from t → Leaps from t far) →
      Leaps (begin_of 0 c tree) (parting c tree) far
  given_leap from far rank is f =
      let e : Ending (begin_of 0 c tree) (parting c tree) ([] ++ front_of 0 c tree) = ending c tree 0 [] refl in
      let some : take place nodes ≡ e.front ++ nodes_of from (parting c tree) =
      ap (take place) split_there ∙ take_front (front_of 0 c tree) (path_of 0 c tree) place place_is ∙ e.is ∙ ap (λ z. e.front ++ nodes_of z (parting c tree)) (sym is) in
      subst (λ z. Leaps z (parting c tree) far) is (f (parting c tree) e.front (e.at ∙ sym is) some)

  pub grown_there : (items : List Node) (from far rank : ℕ) (last : Node) → 0 < length c → from ≡ begin_of 0 c tree
      → ((t : Tree) → (front : List Node) → length front ≡ from → take place nodes ≡ front ++ nodes_of from t → Leaps from t far)
      → items ≡ take place nodes ++ (chain place far rank (drop (shared c tree) c) ++ drop place nodes) → last ≡ get_or items place last →
      Grows c tree (set items place (record { number = last.number; start = last.start; far = last.far; rank = last.rank; ends = true }))
  grown_there items from far rank last some from_is leaps is at =
      let to : Leaps (begin_of 0 c tree) (parting c tree) far = given_leap from far rank from_is leaps in
      let given : Leap = record { over = to.over; rank = rank } in
      let front : List Node = front_of 0 c tree in
      let path : List Node = path_of 0 c tree in
      let far_same : far ≡ far_at given 0 c tree = to.is ∙ sym (far_is given 0 c tree) in
      let new : List Node = chain place far rank (drop (shared c tree) c) ++ path in
      let whole : items ≡ front_of 0 c tree ++ (chain place far rank (drop (shared c tree) c) ++ path_of 0 c tree) =
      is
      ∙ ap₂ (λ xs ys. xs ++ (chain place far rank (drop (shared c tree) c) ++ ys)) (ap (take place) split_there ∙ take_front front path place place_is) (ap (drop place) split_there ∙ drop_front front path place place_is) in
      let more : 0 < length (chain place far rank (drop (shared c tree) c) ++ path_of 0 c tree) =
      omega (arith, length-append (chain place far rank (drop (shared c tree) c)) (path_of 0 c tree), chain_length place far rank (drop (shared c tree) c), length-drop (shared c tree) c, path_length 0 c tree) in
      record {
        leap = given;
        is = ap (λ xs. set xs place (record { number = last.number; start = last.start; far = last.far; rank = last.rank; ends = true })) whole
            ∙ set_front front new place last place_is more (at ∙ ap (λ xs. get_or xs place last) whole)
            ∙ ap₂ (λ z f. front ++ marked (chain z f rank (drop (shared c tree) c) ++ path)) (let e : place ≡ 0 + length (front_of 0 c tree) = omega (arith, place_is) in e) far_same
            ∙ sym (grown given 0 c tree some);
      }

pub longer : (old items : List Node) (place far rank : ℕ) (ns : List ℕ) → items ≡ take place old ++ (chain place far rank ns ++ drop place old) → place ≤ length old → length items ≡ length old + length ns
longer old items place far rank ns is within =
    ap length is ∙ length-append (take place old) (chain place far rank ns ++ drop place old)
    ∙ omega (arith, length-take-le place old within, length-append (chain place far rank ns) (drop place old), chain_length place far rank ns, length-drop place old)
