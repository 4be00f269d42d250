-- A walk through a tree of clauses in search of one within wanted numbers.
use Rattle.std.proofs.Common.{◌≡◌, ℕ, zero, suc, ◌<◌, ◌≤◌, ◌+◌, ◌-◌, ◌⊎◌, Bool, true, false, ◌&&◌, ◌||◌, ltb, List, [], ◌∷◌, ◌++◌, inl, inr, refl, sym, ◌∙◌, ap}
use Rattle.std.proofs.{Common.{ap₂, subst, length, get_or, take, append_assoc, length-append, arith, lt-ltb, ne_eqb}, Math.Bool.{and-true, or-false}}
use Rattle.std.proofs.{lemmas.Bool.{and_right, cases_lt, le-ltb}, lemmas.List.{append-nil}}
use Rattle.listed.specs.Lists.{In, has, here, Ascending, is_inside}
use Rattle.listed.proofs.Lists.{In_cases, In_has, In_none, all_same, has_not}
use Rattle.clause_families.specs.Branches.{any_of, bare, branch, nodes_of, past, size_of, Above, Climbs, Leap, Leapt, Leaps, Standing, Tree}
use Rattle.clause_families.specs.{Inclusion.{is_within}, declared.family_tree.Node.{Node}}

-- a tree of which each clause fails the test
pub none_of : (test : List ℕ → Bool) (tree : Tree) → ((n : ℕ) (c : List ℕ) → test (n ∷ c) ≡ false) → any_of test tree ≡ false
none_of test bare f = refl
none_of test (branch n leap ends below beside) f =
    ap₂ (λ x y. x || y) (and_right ends (test (n ∷ [])) (f n []))
    (ap₂ (λ x y. x || y) (none_of (λ c. test (n ∷ c)) below (λ m c. f n (m ∷ c))) (none_of test beside f))

-- two tests that agree on clauses of greater numbers
pub any_same : (f g : List ℕ → Bool) (x : ℕ) (tree : Tree) → Above x tree → ((c : List ℕ) → ((k : ℕ) → In k c → x < k) → f c ≡ g c) → any_of f tree ≡ any_of g tree
any_same f g x bare a h = refl
any_same f g x (branch n leap ends below beside) a h =
    let more : (c : List ℕ) → ((k : ℕ) → In k c → x < k) → (k : ℕ) → In k (n ∷ c) → x < k =
    λ c u k i. elim (In_cases i) [ inl e ↦ subst (λ z. x < z) (sym e) a.0 | inr j ↦ u k j ] in
    ap₂ (λ y z. y || z) (ap (λ y. ends && y) (h (n ∷ []) (more [] (λ k i. absurd (In_none i)))))
    (ap₂ (λ y z. y || z) (any_same (λ c. f (n ∷ c)) (λ c. g (n ∷ c)) x below a.1 (λ c u. h (n ∷ c) (more c u))) (any_same f g x beside a.2 h))

pub above_less : (x y : ℕ) (tree : Tree) → x < y → Above y tree → Above x tree
above_less x y bare l a = tt
above_less x y (branch n leap ends below beside) l a = (let m : y < n = a.0 in omega arith, above_less x y below l a.1, above_less x y beside l a.2)

-- what stands beside so many branches
pub past_bare : (k : ℕ) → past k bare ≡ bare
past_bare zero = refl
past_bare (suc k) = refl

pub past_fits : (k : ℕ) (tree : Tree) → size_of (past k tree) ≤ size_of tree
past_fits zero tree = omega arith
past_fits (suc k) bare = omega arith
past_fits (suc k) (branch n leap ends below beside) = let l : size_of (past k beside) ≤ size_of beside = past_fits k beside in omega arith

pub past_more : (a b : ℕ) (tree : Tree) → past (a + b) tree ≡ past b (past a tree)
past_more zero b tree = ap (λ k. past k tree) (let e : 0 + b ≡ b = omega arith in e)
past_more (suc a) b bare = past_bare (suc a + b) ∙ sym (past_bare b)
past_more (suc a) b (branch n leap ends below beside) =
    ap (λ k. past k (branch n leap ends below beside)) (let e : suc a + b ≡ suc (a + b) = omega arith in e) ∙ past_more a b beside

past_climbs : (k : ℕ) (tree : Tree) → Climbs tree → Climbs (past k tree)
past_climbs zero tree up = up
past_climbs (suc k) bare up = tt
past_climbs (suc k) (branch n leap ends below beside) up = past_climbs k beside up.1.1

past_above : (k x : ℕ) (tree : Tree) → Above x tree → Above x (past k tree)
past_above zero x tree a = a
past_above (suc k) x bare a = tt
past_above (suc k) x (branch n leap ends below beside) a = past_above k x beside a.2

-- the first branch has the number
abbrev Begins : ℕ → Tree → Type 0
Begins x bare = ⊥
Begins x (branch n leap ends below beside) = n ≡ x

begins_above : (n x : ℕ) (tree : Tree) → Above n tree → Begins x tree → n < x
begins_above n x bare a b = absurd b
begins_above n x (branch m leap ends below beside) a b = let l : n < m = a.0 in omega (arith, b)

-- a number that is less than each of a clause need not be wanted
module _ (w : ℕ) (ws : List ℕ) (size : ℕ) where
  unneeded : (c : List ℕ) → ((k : ℕ) → In k c → w < k) → is_inside c (w ∷ ws) ≡ is_inside c ws
  unneeded c u = all_same (has (w ∷ ws)) (has ws) c (λ k i. ap (λ b. b || has ws k) (ne_eqb k w (λ e. let l : w < k = u k i in absurd (omega arith))))

  passed_by : (tree : Tree) → Above w tree → any_of (is_within (w ∷ ws) size) tree ≡ any_of (is_within ws size) tree
  passed_by tree a = any_same (is_within (w ∷ ws) size) (is_within ws size) w tree a (λ c u. ap (λ b. ltb (length c) size && b) (unneeded c u))

  pub greater : (tree : Tree) (n : ℕ) (leap : Leap) (ends : Bool) (below beside : Tree) → tree ≡ branch n leap ends below beside → Climbs (branch n leap ends below beside) → w < n →
      any_of (is_within (w ∷ ws) size) tree ≡ any_of (is_within ws size) tree
  greater tree n leap ends below beside is up l =
      passed_by tree (subst (Above w) (sym is) (l, above_less w n below l up.0.0, above_less w n beside l up.0.1))

  -- a branch with a number that is less than the wanted ones tells none
  pub lesser : (tree : Tree) (n : ℕ) (leap : Leap) (ends : Bool) (below beside : Tree) → tree ≡ branch n leap ends below beside → Ascending (w ∷ ws) → n < w →
      any_of (is_within (w ∷ ws) size) tree ≡ any_of (is_within (w ∷ ws) size) beside
  lesser tree n leap ends below beside is rises l =
      let none : has (w ∷ ws) n ≡ false =
      has_not (w ∷ ws) n (λ i. elim (In_cases i) [ inl e ↦ absurd (omega arith) | inr j ↦ let m : w < n = rises.0 n j in absurd (omega arith) ]) in
      let fails : (c : List ℕ) → is_within (w ∷ ws) size (n ∷ c) ≡ false =
      λ c. and_right (ltb (length (n ∷ c)) size) (has (w ∷ ws) n && is_inside c (w ∷ ws)) (ap (λ b. b && is_inside c (w ∷ ws)) none) in
      ap (any_of (is_within (w ∷ ws) size)) is
      ∙ ap₂ (λ x y. x || (y || any_of (is_within (w ∷ ws) size) beside)) (and_right ends (is_within (w ∷ ws) size (n ∷ [])) (fails []))
      (none_of (λ c. is_within (w ∷ ws) size (n ∷ c)) below (λ m c. fails (m ∷ c)))

  -- nor do those that are leapt over, as the number behind them is no greater than the wanted one
  pub leapt_over : (k : ℕ) (tree : Tree) (x : ℕ) → Climbs tree → Begins x (past k tree) → x ≤ w → Ascending (w ∷ ws) →
      any_of (is_within (w ∷ ws) size) tree ≡ any_of (is_within (w ∷ ws) size) (past k tree)
  leapt_over zero tree x up b l rises = refl
  leapt_over (suc k) bare x up b l rises = refl
  leapt_over (suc k) (branch n leap ends below beside) x up b l rises =
      let m : n < x = begins_above n x (past k beside) (past_above k n beside up.0.1) b in
      lesser (branch n leap ends below beside) n leap ends below beside refl rises (omega arith)
      ∙ leapt_over k beside x up.1.1 b l rises

  one_less : (k : ℕ) → ltb (suc k) size ≡ ltb k (size - 1)
  one_less k =
      elim (cases_lt (suc k) size) [
        | inl l ↦ lt-ltb (suc k) size l ∙ sym (lt-ltb k (size - 1) (omega arith))
        | inr m ↦ le-ltb (suc k) size m ∙ sym (le-ltb k (size - 1) (omega arith))
      ]

  -- a branch with the wanted number
  pub met : (tree : Tree) (n : ℕ) (leap : Leap) (ends : Bool) (below beside : Tree) → tree ≡ branch n leap ends below beside → Climbs (branch n leap ends below beside) → w ≡ n →
      any_of (is_within (w ∷ ws) size) tree ≡ ((ends && ltb 1 size) || (any_of (is_within ws (size - 1)) below || any_of (is_within ws size) beside))
  met tree n leap ends below beside is up e =
      let held : has (w ∷ ws) n ≡ true = In_has (subst (λ z. In z (w ∷ ws)) e here) in
      let one : is_within (w ∷ ws) size (n ∷ []) ≡ ltb 1 size = ap (λ b. ltb 1 size && (b && true)) held ∙ and-true (ltb 1 size) in
      let more : (c : List ℕ) → ((k : ℕ) → In k c → n < k) → is_within (w ∷ ws) size (n ∷ c) ≡ is_within ws (size - 1) c =
      λ c u. ap₂ (λ x y. x && y) (one_less (length c)) (ap (λ b. b && is_inside c (w ∷ ws)) held ∙ unneeded c (λ k i. subst (λ z. z < k) (sym e) (u k i))) in
      ap (any_of (is_within (w ∷ ws) size)) is
      ∙ ap₂ (λ x y. x || y) (ap (λ b. ends && b) one)
      (ap₂ (λ x y. x || y) (any_same (λ c. is_within (w ∷ ws) size (n ∷ c)) (is_within ws (size - 1)) n below up.0.0 more)
      (passed_by beside (subst (λ z. Above z beside) (sym e) up.0.1)))

-- The last node of a tree is that of its first branch.
pub record Parts (from : ℕ) (nodes others : List Node) (node : Node) (tree : Tree) : Type 0 where
  pub leap : Leap
  pub below : Tree
  pub beside : Tree
  pub is : tree ≡ branch node.number leap node.ends below beside
  pub start : node.start ≡ from + size_of beside
  pub far : node.far ≡ from + size_of (past leap.over beside)
  pub fits : node.start ≤ length others
  pub front : List Node
  pub at : length front ≡ from
  pub behind : others ≡ (front ++ nodes_of from beside) ++ nodes_of node.start below
  pub place : length (front ++ nodes_of from beside) ≡ node.start
  pub stay : take node.start nodes ≡ front ++ nodes_of from beside

pub size_is : (from : ℕ) (tree : Tree) → length (nodes_of from tree) ≡ size_of tree
size_is from bare = refl
size_is from (branch n leap ends below beside) =
    let a : length (nodes_of from beside) ≡ size_of beside = size_is from beside in
    let b : length (nodes_of (from + size_of beside) below) ≡ size_of below = size_is (from + size_of beside) below in
    let last : List Node = record { number = n; start = from + size_of beside; far = from + size_of (past leap.over beside); rank = leap.rank; ends = ends } ∷ [] in
    length-append (nodes_of from beside) (nodes_of (from + size_of beside) below ++ last)
    ∙ ap (λ k. length (nodes_of from beside) + k) (length-append (nodes_of (from + size_of beside) below) last)
    ∙ omega arith

pub is_bare : (t : Tree) → size_of t ≡ 0 → t ≡ bare
is_bare bare z = refl
is_bare (branch n leap ends below beside) z = absurd (omega arith)

last_same : (xs ys : List Node) (x y : Node) → xs ++ (x ∷ []) ≡ ys ++ (y ∷ []) → (xs ≡ ys) × (x ≡ y)
last_same [] [] x y e = (refl, cc)
last_same [] (b ∷ []) x y e = absurd (let n : [] ≡ (y ∷ []) = cc in cc)
last_same [] (b ∷ (d ∷ ys)) x y e = absurd (let n : [] ≡ (d ∷ (ys ++ (y ∷ []))) = cc in cc)
last_same (a ∷ []) [] x y e = absurd (let n : (x ∷ []) ≡ [] = cc in cc)
last_same (a ∷ (d ∷ xs)) [] x y e = absurd (let n : (d ∷ (xs ++ (x ∷ []))) ≡ [] = cc in cc)
last_same (a ∷ xs) (b ∷ ys) x y e =
    let h : a ≡ b = cc in
    let w : (xs ≡ ys) × (x ≡ y) = last_same xs ys x y (cc) in
    (ap₂ (λ z zs. z ∷ zs) h w.0, w.1)

pub take_front : (xs ys : List Node) (k : ℕ) → length xs ≡ k → take k (xs ++ ys) ≡ xs
take_front [] ys zero e = refl
take_front [] ys (suc k) e = absurd (omega arith)
take_front (x ∷ xs) ys zero e = absurd (omega arith)
take_front (x ∷ xs) ys (suc k) e = ap (λ zs. x ∷ zs) (take_front xs ys k (omega arith))

-- a list begins with another one
pub record Front (xs ys : List Node) : Type 0 where
  pub rest : List Node
  pub is : ys ≡ xs ++ rest

pub past_front : (from k : ℕ) (tree : Tree) → Front (nodes_of from (past k tree)) (nodes_of from tree)
past_front from zero tree = record { rest = []; is = sym (append-nil (nodes_of from tree)) }
past_front from (suc k) bare = record { rest = []; is = refl }
past_front from (suc k) (branch n leap ends below beside) =
    let r : Front (nodes_of from (past k beside)) (nodes_of from beside) = past_front from k beside in
    let more : List Node = nodes_of (from + size_of beside) below
    ++ (record { number = n; start = from + size_of beside; far = from + size_of (past leap.over beside); rank = leap.rank; ends = ends } ∷ []) in
    record { rest = r.rest ++ more; is = ap (λ xs. xs ++ more) r.is ∙ append_assoc (nodes_of from (past k beside)) r.rest more }

pub front_again : (front first rest more : List Node) → (front ++ (first ++ rest)) ++ more ≡ (front ++ first) ++ (rest ++ more)
front_again front first rest more = ap (λ xs. xs ++ more) (sym (append_assoc front first rest)) ∙ append_assoc (front ++ first) rest more

at_end : (xs ys : List Node) (y d : Node) (k : ℕ) → length xs ≡ k → get_or (xs ++ (y ∷ ys)) k d ≡ y
at_end [] ys y d zero e = refl
at_end [] ys y d (suc k) e = absurd (omega arith)
at_end (x ∷ xs) ys y d zero e = absurd (omega arith)
at_end (x ∷ xs) ys y d (suc k) e = at_end xs ys y d k (omega arith)

-- the node before the end of a tree's nodes is that of its first branch
module _ (from : ℕ) (front more nodes : List Node) (d : Node) (far : ℕ) (at : length front ≡ from) where
  first_is : (n : ℕ) (leap : Leap) (ends : Bool) (below beside : Tree) → far ≡ from + size_of (branch n leap ends below beside) →
      nodes ≡ (front ++ nodes_of from (branch n leap ends below beside)) ++ more →
      get_or nodes (far - 1) d ≡ record { number = n; start = from + size_of beside; far = from + size_of (past leap.over beside); rank = leap.rank; ends = ends }
  first_is n leap ends below beside size is =
      let side : List Node = nodes_of from beside in
      let down : List Node = nodes_of (from + size_of beside) below in
      let own : Node = record { number = n; start = from + size_of beside; far = from + size_of (past leap.over beside); rank = leap.rank; ends = ends } in
      let joined : nodes ≡ ((front ++ nodes_of from beside) ++ nodes_of (from + size_of beside) below) ++ (own ∷ more) =
      is ∙ ap (λ xs. xs ++ more) (sym (append_assoc front side (down ++ (own ∷ []))) ∙ sym (append_assoc (front ++ side) down (own ∷ [])))
      ∙ append_assoc ((front ++ side) ++ down) (own ∷ []) more in
      let long : length ((front ++ nodes_of from beside) ++ nodes_of (from + size_of beside) below) ≡ far - 1 =
      omega (arith, length-append (front ++ side) down, length-append front side, size_is from beside, size_is (from + size_of beside) below) in
      ap (λ xs. get_or xs (far - 1) d) joined ∙ at_end ((front ++ side) ++ down) more own d (far - 1) long

  pub first_node : (tree : Tree) → far ≡ from + size_of tree → from < far → nodes ≡ (front ++ nodes_of from tree) ++ more → Begins (get_or nodes (far - 1) d).number tree
  first_node bare size some is = absurd (omega arith)
  first_node (branch n leap ends below beside) size some is = sym (ap (λ z. z.number) (first_is n leap ends below beside size is))

  pub first_leaps : (tree : Tree) → far ≡ from + size_of tree → from < far → nodes ≡ (front ++ nodes_of from tree) ++ more → Leaps from tree (get_or nodes (far - 1) d).far
  first_leaps bare size some is = absurd (omega arith)
  first_leaps (branch n leap ends below beside) size some is = record { over = suc leap.over; is = ap (λ z. z.far) (first_is n leap ends below beside size is) }

pub parted : (from : ℕ) (tree : Tree) (front nodes others : List Node) (node : Node) → length front ≡ from → nodes ≡ front ++ nodes_of from tree → from < length nodes →
    nodes ≡ others ++ (node ∷ []) → Parts from nodes others node tree
parted from bare front nodes others node at is some split =
    let k : length nodes ≡ length front + 0 = ap length is ∙ length-append front [] in absurd (omega arith)
parted from (branch n leap ends below beside) front nodes others node at is some split =
    let side : List Node = nodes_of from beside in
    let down : List Node = nodes_of (from + size_of beside) below in
    let own : Node = record { number = n; start = from + size_of beside; far = from + size_of (past leap.over beside); rank = leap.rank; ends = ends } in
    let joined : nodes ≡ ((front ++ nodes_of from beside) ++ nodes_of (from + size_of beside) below) ++ (own ∷ []) =
    is ∙ sym (append_assoc front side (down ++ (own ∷ []))) ∙ sym (append_assoc (front ++ side) down (own ∷ [])) in
    let same : (others ≡ (front ++ nodes_of from beside) ++ nodes_of (from + size_of beside) below) × (node ≡ own) =
    last_same others ((front ++ side) ++ down) node own (sym split ∙ joined) in
    let start : node.start ≡ from + size_of beside = ap (λ z. z.start) same.1 in
    let place : length (front ++ nodes_of from beside) ≡ node.start =
    length-append front side ∙ (let s : length (nodes_of from beside) ≡ size_of beside = size_is from beside in omega arith) in
    record {
      leap = leap;
      below = below;
      beside = beside;
      is = ap (λ z. branch z.number leap z.ends below beside) (sym same.1);
      start = start;
      far = ap (λ z. z.far) same.1;
      fits = let k : length others ≡ length (front ++ nodes_of from beside) + length (nodes_of (from + size_of beside) below) = ap length same.0 ∙ length-append (front ++ side) down in omega arith;
      front = front;
      at = at;
      behind = same.0 ∙ ap (λ z. (front ++ side) ++ nodes_of z below) (sym start);
      place = place;
      stay = ap (take node.start) (joined ∙ append_assoc (front ++ side) down (own ∷ [])) ∙ take_front (front ++ side) (down ++ (own ∷ [])) node.start place;
    }

abbrev pub parts_of : (from : ℕ) (nodes others : List Node) (node : Node) (s : Standing from nodes) → from < length nodes → nodes ≡ others ++ (node ∷ []) → Parts from nodes others node s.tree
parts_of from nodes others node s some split = parted from s.tree s.front nodes others node s.at s.is some split

module _ (from : ℕ) (nodes others : List Node) (node : Node) (tree : Tree) (up : Climbs tree) (p : Parts from nodes others node tree) where
  abbrev pub standing_beside : Standing from (take node.start nodes)
  standing_beside = record { tree = p.beside; climbs = (subst Climbs p.is up).1.1; front = p.front; at = p.at; is = p.stay }

  abbrev pub standing_below : Standing node.start others
  standing_below = record { tree = p.below; climbs = (subst Climbs p.is up).1.0; front = p.front ++ nodes_of from p.beside; at = p.place; is = p.behind }

  -- the last of those that stand beside each other
  pub alone : node.start ≡ from → p.beside ≡ bare
  alone e = is_bare p.beside (let s : node.start ≡ from + size_of p.beside = p.start in omega arith)

-- no node is left
pub bare_there : (from : ℕ) (nodes : List Node) (s : Standing from nodes) → length nodes ≤ from → s.tree ≡ bare
bare_there from nodes s l =
    let k : length nodes ≡ length s.front + length (nodes_of from s.tree) = ap length s.is ∙ length-append s.front (nodes_of from s.tree) in
    let m : length (nodes_of from s.tree) ≡ size_of s.tree = size_is from s.tree in
    let f : length s.front ≡ from = s.at in
    is_bare s.tree (omega arith)

-- what is left to be looked at answers as all did
pub record Left (from : ℕ) (answer : Bool) (nodes : List Node) (wanted : List ℕ) (size : ℕ) : Type 0 where
  pub now : Standing from nodes
  pub same : answer ≡ any_of (is_within wanted size) now.tree

module _ (from : ℕ) (answer : Bool) (nodes others : List Node) (node : Node) (wanted : List ℕ) (w : ℕ) (ws : List ℕ) (size : ℕ)
    (wanted_is : wanted ≡ w ∷ ws) (split : nodes ≡ others ++ (node ∷ [])) (some : from < length nodes) (l : Left from answer nodes wanted size) where
  abbrev parts : Parts from nodes others node l.now.tree
  parts = parts_of from nodes others node l.now some split

  told : answer ≡ any_of (is_within (w ∷ ws) size) l.now.tree
  told = l.same ∙ ap (λ z. any_of (is_within z size) l.now.tree) wanted_is

  abbrev pub behind_is : Standing node.start others
  behind_is = standing_below from nodes others node l.now.tree l.now.climbs parts

  pub start_fits : node.start ≤ length others
  start_fits = parts.fits

  pub step_greater : w < node.number → Left from answer nodes ws size
  step_greater m = record { now = l.now; same = told ∙ greater w ws size l.now.tree node.number parts.leap node.ends parts.below parts.beside parts.is (subst Climbs parts.is l.now.climbs) m }

  pub step_lesser : Ascending wanted → node.number < w → Left from answer (take node.start nodes) wanted size
  step_lesser rises m = record {
    now = standing_beside from nodes others node l.now.tree l.now.climbs parts;
    same = told ∙ lesser w ws size l.now.tree node.number parts.leap node.ends parts.below parts.beside parts.is (subst Ascending wanted_is rises) m
        ∙ ap (λ z. any_of (is_within z size) parts.beside) (sym wanted_is);
  }

  -- behind the branches that the node leaps over
  module _ (rises : Ascending wanted) (m : node.number < w) where
    beyond : (place : ℕ) → Leapt nodes from node w place → Left from answer (take place nodes) wanted size
    beyond place f =
        let k : ℕ = parts.leap.over in
        let r : Front (nodes_of from (past parts.leap.over parts.beside)) (nodes_of from parts.beside) = past_front from k parts.beside in
        let up : Climbs parts.beside = (subst Climbs parts.is l.now.climbs).1.1 in
        let first : List Node = nodes_of from (past k parts.beside) in
        let more : List Node = r.rest ++ (nodes_of node.start parts.below ++ (node ∷ [])) in
        let joined : nodes ≡ (parts.front ++ nodes_of from (past parts.leap.over parts.beside)) ++ (r.rest ++ (nodes_of node.start parts.below ++ (node ∷ []))) =
        split ∙ ap (λ xs. xs ++ (node ∷ [])) parts.behind
        ∙ append_assoc (parts.front ++ nodes_of from parts.beside) (nodes_of node.start parts.below) (node ∷ [])
        ∙ ap (λ xs. (parts.front ++ xs) ++ (nodes_of node.start parts.below ++ (node ∷ []))) r.is
        ∙ front_again parts.front first r.rest (nodes_of node.start parts.below ++ (node ∷ [])) in
        let long : length (parts.front ++ nodes_of from (past parts.leap.over parts.beside)) ≡ place =
        omega (arith, length-append parts.front first, size_is from (past k parts.beside), parts.at, parts.far, f.is) in
        record {
          now = record {
            tree = past k parts.beside;
            climbs = past_climbs k parts.beside up;
            front = parts.front;
            at = parts.at;
            is = ap (take place) joined ∙ take_front (parts.front ++ first) more place long;
          };
          same = told ∙ lesser w ws size l.now.tree node.number parts.leap node.ends parts.below parts.beside parts.is (subst Ascending wanted_is rises) m
              ∙ leapt_over w ws size k parts.beside (get_or nodes (node.far - 1) node).number up
              (first_node from parts.front more nodes node node.far parts.at (past k parts.beside) parts.far f.some joined) f.low (subst Ascending wanted_is rises)
              ∙ ap (λ z. any_of (is_within z size) (past k parts.beside)) (sym wanted_is);
        }

    pub step_behind : (place : ℕ) → (place ≡ node.start) ⊎ Leapt nodes from node w place → Left from answer (take place nodes) wanted size
    step_behind place (inl e) = subst (λ z. Left from answer (take z nodes) wanted size) (sym e) (step_lesser rises m)
    step_behind place (inr f) = beyond place f

  pub far_fits : node.far ≤ node.start
  far_fits = let k : size_of (past parts.leap.over parts.beside) ≤ size_of parts.beside = past_fits parts.leap.over parts.beside in omega (arith, parts.far, parts.start)

  pub behind_fits : (place : ℕ) → (place ≡ node.start) ⊎ Leapt nodes from node w place → place ≤ node.start
  behind_fits place (inl e) = omega (arith, e)
  behind_fits place (inr f) = omega (arith, f.is, far_fits)

  met_at : w ≡ node.number → answer ≡ ((node.ends && ltb 1 size) || (any_of (is_within ws (size - 1)) parts.below || any_of (is_within ws size) parts.beside))
  met_at e = told ∙ met w ws size l.now.tree node.number parts.leap node.ends parts.below parts.beside parts.is (subst Climbs parts.is l.now.climbs) e

  pub ends_here : w ≡ node.number → (node.ends && ltb 1 size) ≡ true → answer ≡ true
  ends_here e h = met_at e ∙ ap (λ b. b || (any_of (is_within ws (size - 1)) parts.below || any_of (is_within ws size) parts.beside)) h

  pub step_alone : w ≡ node.number → (node.ends && ltb 1 size) ≡ false → node.start ≡ from → Left from answer others ws (size - 1)
  step_alone e h f =
      let none : parts.beside ≡ bare = alone from nodes others node l.now.tree l.now.climbs parts f in
      let same : answer ≡ any_of (is_within ws (size - 1)) parts.below =
      met_at e ∙ ap (λ b. b || (any_of (is_within ws (size - 1)) parts.below || any_of (is_within ws size) parts.beside)) h
      ∙ ap (λ t. any_of (is_within ws (size - 1)) parts.below || any_of (is_within ws size) t) none
      ∙ or-false (any_of (is_within ws (size - 1)) parts.below) in
      record {
        now = record {
          tree = parts.below;
          climbs = (subst Climbs parts.is l.now.climbs).1.0;
          front = parts.front ++ nodes_of from parts.beside;
          at = parts.place ∙ f;
          is = parts.behind ∙ ap (λ z. (parts.front ++ nodes_of from parts.beside) ++ nodes_of z parts.below) f;
        };
        same = same;
      }

  pub found_below : w ≡ node.number → (node.ends && ltb 1 size) ≡ false → any_of (is_within ws (size - 1)) behind_is.tree ≡ true → answer ≡ true
  found_below e h t =
      met_at e ∙ ap (λ b. b || (any_of (is_within ws (size - 1)) parts.below || any_of (is_within ws size) parts.beside)) h
      ∙ ap (λ b. b || any_of (is_within ws size) parts.beside) t

  pub step_beside : w ≡ node.number → (node.ends && ltb 1 size) ≡ false → any_of (is_within ws (size - 1)) behind_is.tree ≡ false → Left from answer (take node.start nodes) ws size
  step_beside e h t = record {
    now = standing_beside from nodes others node l.now.tree l.now.climbs parts;
    same = met_at e ∙ ap (λ b. b || (any_of (is_within ws (size - 1)) parts.below || any_of (is_within ws size) parts.beside)) h
        ∙ ap (λ b. b || any_of (is_within ws size) parts.beside) t;
  }

  pub start_within : node.start < length nodes
  start_within = let f : node.start ≤ length others = start_fits in omega (arith, ap length split, length-append others (node ∷ []))

pub fewer_others : (nodes others : List Node) (node : Node) → nodes ≡ others ++ (node ∷ []) → length nodes ≡ length others + 1
fewer_others nodes others node split = ap length split ∙ length-append others (node ∷ [])

-- where no node is left, or no number is wanted any more
pub no_nodes : (from : ℕ) (answer : Bool) (nodes : List Node) (wanted : List ℕ) (size : ℕ) → Left from answer nodes wanted size → length nodes ≤ from → answer ≡ false
no_nodes from answer nodes wanted size l few = l.same ∙ ap (any_of (is_within wanted size)) (bare_there from nodes l.now few)

pub none_wanted : (from : ℕ) (answer : Bool) (nodes : List Node) (wanted : List ℕ) (size : ℕ) → Left from answer nodes wanted size → length wanted ≡ 0 → answer ≡ false
none_wanted from answer nodes (w ∷ ws) size l e = absurd (omega arith)
none_wanted from answer nodes [] size l e = l.same ∙ none_of (is_within [] size) l.now.tree (λ n c. and_right (ltb (length (n ∷ c)) size) false refl)
