-- for the bodies of this crate alone
-- What a node is whose closure does not clash.
use Rattle.std.specs.Prelude.{◌≡◌, ℕ, ◌<◌, ◌≤◌, Bool, true, false, List, [], ◌∷◌, ◌++◌, All}
use Rattle.std.specs.Prelude.{Contains, slice_index_or, ◌⊎◌}
use Rattle.search_terms.specs.{declared.literals.Literal.{Literal}, Closure.{literal}}
use Rattle.search_terms.specs.Tree.{IsFoundLeaf, IsSplit, is_open_need, is_undecided}
use Rattle.search_terms.specs.Marks.{classes_left, true_classes}
use Rattle.clause_solver.specs.{Marking.{set_of_trail}, declared.nodes.Node.{Node}}
use Rattle.clause_solver.specs.declared.table.Use.{Use}
use Rattle.clause_solver.specs.declared.nodes.Node.TheVariants.{Met, Splits}

-- The trail leaves no need open, and so is that of a found leaf. Or the node splits on a class, and
-- each branch leaves fewer classes.
abbrev pub IsNode : ℕ → List (List Literal) → List Literal → List Literal → Node → Type 0
IsNode classes formula decisions trail Met =
    IsFoundLeaf classes formula decisions (true_classes classes (set_of_trail trail))
IsNode classes formula decisions trail (Splits c) =
    IsSplit formula decisions c
    × (c < classes)
    × (classes_left classes (decisions ++ literal c true ∷ []) < classes_left classes decisions)
    × (classes_left classes (decisions ++ literal c false ∷ []) < classes_left classes decisions)

-- each sentence has a negative literal
abbrev pub HaveNegative : List (List Literal) → Type 0
HaveNegative own = All (λ s. (p : ℕ) × Contains s (literal p false)) own

-- no sentence has a negative literal
abbrev pub ArePositive : List (List Literal) → Type 0
ArePositive goals = All (λ s. All (λ l. l.positive ≡ true) s) goals

-- no sentence is empty
abbrev pub AreFull : List (List Literal) → Type 0
AreFull formula = All (λ s. (l : Literal) × Contains s l) formula

-- no sentence of the row below the least place is open, and the one at the least place is, unless
-- that is `before`
pub record IsLeastOpen (set : Literal → Bool) (own : List (List Literal)) (row : List Use)
    (before least : ℕ) : Type 0 where
  pub lower : least ≤ before
  pub opens : (least ≡ before) ⊎ (is_open_need set (slice_index_or own least []) ≡ true)
  pub none : (u : Use) → Contains row u → u.sentence < least →
      is_open_need set (slice_index_or own u.sentence []) ≡ false

-- a class on which a node splits is undecided
abbrev pub IsUndecidedAt : List Literal → Node → Type 0
IsUndecidedAt trail Met = Unit {0}
IsUndecidedAt trail (Splits c) = is_undecided (set_of_trail trail) (literal c true) ≡ true
