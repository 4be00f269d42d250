-- for the bodies of this crate alone
-- Families of clauses as trees: clauses that begin alike share branches.
use Rattle.std.specs.Prelude.{◌≡◌, ℕ, zero, suc, ◌<◌, ◌≤◌, ◌+◌, ◌-◌, Bool, true, false, ◌&&◌, ◌||◌}
use Rattle.std.specs.{Prelude.{eqb, cond, List, [], ◌∷◌, ◌++◌, length, get_or}, List.{list_any}}
use Rattle.listed.specs.Lists.{In, Ascending}
use Rattle.clause_pool.specs.Lists.{InOrder}
use Rattle.clause_families.specs.declared.family_tree.FamilyTree.{FamilyTree}
use Rattle.clause_families.specs.declared.family_tree.Node.{Node}

-- how many siblings a branch leaps over, and the rank of that leap
pub record Leap : Type 0 where
  pub over : ℕ
  pub rank : ℕ

abbrev pub no_leap : Leap
no_leap = record { over = 0; rank = 0 }

-- a branch has a number, its leap, whether a clause ends with it, what goes on after it, and its
-- later siblings
pub data Tree : Type 0 where
  bare : Tree
  branch : ℕ → Leap → Bool → Tree → Tree → Tree

abbrev pub is_empty : List ℕ → Bool
is_empty [] = true
is_empty (n ∷ ns) = false

-- whether some clause of the tree passes the test
abbrev pub any_of : (List ℕ → Bool) → Tree → Bool
any_of test bare = false
any_of test (branch n leap ends below beside) =
    (ends && test (n ∷ [])) || (any_of (λ c. test (n ∷ c)) below || any_of test beside)

-- the tree with one more clause, which comes before the others; the first branch that it does not
-- share with them gets the leap
abbrev pub with_clause : Leap → List ℕ → Tree → Tree
with_clause own [] tree = tree
with_clause own (n ∷ ns) bare = branch n own (is_empty ns) (with_clause no_leap ns bare) bare
with_clause own (n ∷ ns) (branch m leap ends below beside) =
    cond (eqb n m) (branch m leap (is_empty ns || ends) (with_clause own ns below) beside)
    (branch n own (is_empty ns) (with_clause no_leap ns bare) (branch m leap ends below beside))

abbrev pub first_leap : List Leap → Leap
first_leap [] = no_leap
first_leap (l ∷ ls) = l

abbrev pub later_leaps : List Leap → List Leap
later_leaps [] = []
later_leaps (l ∷ ls) = ls

-- the tree of a family, with a leap for each clause
abbrev pub tree_of : List Leap → List (List ℕ) → Tree
tree_of leaps [] = bare
tree_of leaps (c ∷ cs) = with_clause (first_leap leaps) c (tree_of (later_leaps leaps) cs)

-- how many first numbers a clause shares with the first one of the tree
abbrev pub shared : List ℕ → Tree → ℕ
shared [] tree = 0
shared (n ∷ ns) bare = 0
shared (n ∷ ns) (branch m leap ends below beside) = cond (eqb n m) (suc (shared ns below)) 0

abbrev pub size_of : Tree → ℕ
size_of bare = 0
size_of (branch n leap ends below beside) = suc (size_of beside + size_of below)

-- the place at which those nodes begin among which a clause parts from the first one of the tree
abbrev pub begin_of : ℕ → List ℕ → Tree → ℕ
begin_of from [] tree = from
begin_of from (n ∷ ns) bare = from
begin_of from (n ∷ ns) (branch m leap ends below beside) =
    cond (eqb n m) (begin_of (from + size_of beside) ns below) from

-- the tree without its first k branches
abbrev pub past : ℕ → Tree → Tree
past zero tree = tree
past (suc k) bare = bare
past (suc k) (branch n leap ends below beside) = past k beside

-- the nodes of a tree from a place on: those of the siblings of the first branch, then those below
-- it, and then its own
abbrev pub nodes_of : ℕ → Tree → List Node
nodes_of from bare = []
nodes_of from (branch n leap b below beside) =
    nodes_of from beside ++ (nodes_of (from + size_of beside) below
    ++ (record {
      number = n;
      start = from + size_of beside;
      far = from + size_of (past leap.over beside);
      rank = leap.rank;
      ends = b;
    } ∷ []))

-- the nodes of a chain of numbers, in which no clause ends yet; the first one leaps
abbrev pub chain : ℕ → ℕ → ℕ → List ℕ → List Node
chain place far rank [] = []
chain place far rank (n ∷ ns) = chain place place 0 ns
    ++ (record { number = n; start = place; far = far; rank = rank; ends = false } ∷ [])

-- each number of the tree is greater
abbrev pub Above : ℕ → Tree → Type 0
Above n bare = Unit
Above n (branch m leap ends below beside) = (n < m) × Above n below × Above n beside

-- numbers rise from a branch to those below it, and from sibling to sibling
abbrev pub Climbs : Tree → Type 0
Climbs bare = Unit
Climbs (branch n leap ends below beside) =
    (Above n below × Above n beside) × (Climbs below × Climbs beside)

-- the nodes from a place on are those of a tree
pub record Standing (from : ℕ) (nodes : List Node) : Type 0 where
  pub tree : Tree
  pub climbs : Climbs tree
  pub front : List Node
  pub at : length front ≡ from
  pub is : nodes ≡ front ++ nodes_of from tree

-- the nodes are those of the tree with one more clause
pub record Grows (clause : List ℕ) (tree : Tree) (nodes : List Node) : Type 0 where
  pub leap : Leap
  pub is : nodes ≡ nodes_of 0 (with_clause leap clause tree)

-- the nodes up to the place are those of the tree without some of its first branches
pub record Leaps (from : ℕ) (tree : Tree) (far : ℕ) : Type 0 where
  pub over : ℕ
  pub is : far ≡ from + size_of (past over tree)

-- the place is that to which the node leaps, and the number there is no greater than this one
pub record Leapt (nodes : List Node) (from : ℕ) (node : Node) (number place : ℕ) : Type 0 where
  pub some : from < node.far
  pub is : place ≡ node.far
  pub low : (get_or nodes (node.far - 1) node).number ≤ number

-- the tree was built of the clauses of a family
pub record BuiltOf (built : FamilyTree) (family : List (List ℕ)) : Type 0 where
  pub leaps : List Leap
  pub nodes : built.nodes.items ≡ nodes_of 0 (tree_of leaps family)
  pub empty : built.holds_empty ≡ list_any is_empty family
  pub short : (c : List ℕ) → In c family → built.shortest ≤ length c

-- the tree was built of the clauses of a family in order
pub record TreeOf (built : FamilyTree) (family : List (List ℕ)) : Type 0 where
  pub in_order : InOrder family
  pub rising : (c : List ℕ) → In c family → Ascending c
  pub by : BuiltOf built family

-- the tree is that of some family
pub record HasFamily (built : FamilyTree) : Type 0 where
  pub family : List (List ℕ)
  pub tells : TreeOf built family
