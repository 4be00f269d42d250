-- The search tree of a formula, its failed leaves, what it finds, and its log. A node is a list of
-- decisions; its closure is that of the decisions over the formula.
use Rattle.std.specs.Prelude.{◌≡◌, ℕ, ◌+◌, ◌<◌, Bool, true, false, not, ◌&&◌, List, [], ◌∷◌, ◌++◌}
use Rattle.std.specs.Prelude.{length, map, slice_index_or, if◌then◌else◌, Option, Some, None}
use Rattle.std.specs.{Prelude.{is_some}, List.{list_all, find}}
use Rattle.search_terms.specs.declared.literals.Literal.{Literal}
use Rattle.search_terms.specs.Closure.{literal, negation, IsClosure, Clashes}

-- An open need: the negated classes of the sentence are true, and none of its other members is. In
-- the formula of a repository and goals this is a goal without a true member, or a clause of a true
-- class without a true member.
abbrev pub is_open_need : (Literal → Bool) → List Literal → Bool
is_open_need set sentence =
    list_all (λ l. if l.positive then not (set l) else set (negation l)) sentence

-- neither the literal nor its negation is in the set
abbrev pub is_undecided : (Literal → Bool) → Literal → Bool
is_undecided set l = not (set l) && not (set (negation l))

-- A leaf that failed, a leaf with the flags of its true classes, or a split on a class. A split has
-- first the tree with the class true, then the one with it false.
pub data Tree : Type 0 where
  failed_leaf : Tree
  found_leaf : List Bool → Tree
  split : ℕ → Tree → Tree → Tree

-- a found leaf: the closure does not clash and leaves no need open; the flags are those of the true
-- classes
pub record IsFoundLeaf (classes : ℕ) (formula : List (List Literal)) (decisions : List Literal)
    (chosen : List Bool) : Type 0 where
  pub set : Literal → Bool
  pub closure : IsClosure formula decisions set
  pub calm : ¬ (Clashes formula decisions)
  pub met : find (is_open_need set) formula ≡ None
  pub long : length chosen ≡ classes
  pub each : (c : ℕ) → c < classes → slice_index_or chosen c false ≡ set (literal c true)

-- A split: the closure does not clash and leaves a need open. The class is the first undecided
-- member of the first such need. It is the least one, since goals and clauses are ascending.
pub record IsSplit (formula : List (List Literal)) (decisions : List Literal) (c : ℕ) : Type 0 where
  pub set : Literal → Bool
  pub closure : IsClosure formula decisions set
  pub calm : ¬ (Clashes formula decisions)
  pub need : List Literal
  pub first : find (is_open_need set) formula ≡ Some need
  pub member : Literal
  pub least : find (is_undecided set) need ≡ Some member
  pub named : c ≡ member.class

-- the tree below these decisions: a failed leaf if the closure clashes, a found leaf, or a split,
-- true first and then false
abbrev pub IsTree : ℕ → List (List Literal) → List Literal → Tree → Type 0
IsTree classes formula decisions failed_leaf = Clashes formula decisions
IsTree classes formula decisions (found_leaf chosen) = IsFoundLeaf classes formula decisions chosen
IsTree classes formula decisions (split c left right) =
    IsSplit formula decisions c
    × IsTree classes formula (decisions ++ literal c true ∷ []) left
    × IsTree classes formula (decisions ++ literal c false ∷ []) right

-- the true classes of the first found leaf
abbrev pub found_of : Tree → Option (List Bool)
found_of failed_leaf = None
found_of (found_leaf chosen) = Some chosen
found_of (split c left right) = if is_some (found_of left) then found_of left else found_of right

-- the number of failed leaves before the first found leaf, or in the whole tree
abbrev pub failed_leaves : Tree → ℕ
failed_leaves failed_leaf = 1
failed_leaves (found_leaf chosen) = 0
failed_leaves (split c left right) =
    failed_leaves left + (if is_some (found_of left) then 0 else failed_leaves right)

-- The log: an entry for each node, children before their parent and the true branch before the
-- false one. The entry is the list of the node's negated decisions, from the root on.
abbrev pub log_of : List Literal → Tree → List (List Literal)
log_of decisions failed_leaf = map negation decisions ∷ []
log_of decisions (found_leaf chosen) = []
log_of decisions (split c left right) =
    log_of (decisions ++ literal c true ∷ []) left
    ++ log_of (decisions ++ literal c false ∷ []) right
    ++ map negation decisions ∷ []
