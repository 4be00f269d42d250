-- What the propagation rests on: the sentences of goals, clauses and conflicts, and the table of
-- their uses.
use Rattle.std.specs.Prelude.{◌≡◌, ℕ, ◌*◌, ◌<◌, Bool, false, List, [], ◌++◌, All, length}
use Rattle.std.specs.Prelude.{slice_index_or, Contains, ◌⊎◌}
use Rattle.listed.specs.Lists.{In}
use Rattle.row_book.specs.Book.{listed_for}
use Rattle.search_terms.specs.{declared.literals.Literal.{Literal}, Closure.{negation, InRange}}
use Rattle.search_terms.specs.{Marks.{flag_place}, Form.{owned_sentences, conflict_sentence}}
use Rattle.clause_solver.specs.{declared.formula.Formula.{Formula}, declared.table.Use.{Use}}

-- goals, then clauses, then conflicts
abbrev pub whole_form : List (List Literal) → List (List Literal) →
    List (List ℕ) → List (List Literal)
whole_form goals own conflicts = goals ++ (own ++ owned_sentences conflict_sentence 0 conflicts)

-- the sentences of a formula
abbrev pub sentences_in : Formula → List (List Literal)
sentences_in formula = whole_form formula.goals.now formula.own.now formula.conflicts.now

-- the flag contradicts a literal of the sentence
abbrev pub Contradicts : List Literal → ℕ → Type 0
Contradicts sentence flag = (m : Literal) × Contains sentence m × (flag ≡ flag_place (negation m))

-- a use of the sentence of number k
pub record IsUseOf (sentence : List Literal) (k : ℕ) (u : Use) : Type 0 where
  pub named : u.sentence ≡ k
  pub one : Contradicts sentence u.one
  pub other : Contradicts sentence u.other

-- a use of the sentence at its place
pub record IsUse (own : List (List Literal)) (u : Use) : Type 0 where
  pub within : u.sentence < length own
  pub one : Contradicts (slice_index_or own u.sentence []) u.one
  pub other : Contradicts (slice_index_or own u.sentence []) u.other

-- the use has two flags, and the set has neither's literal
pub record HasTwoFree (set : Literal → Bool) (u : Use) : Type 0 where
  pub apart : u.one ≡ u.other → ⊥
  pub one : (m : Literal) → u.one ≡ flag_place m → set m ≡ false
  pub other : (m : Literal) → u.other ≡ flag_place m → set m ≡ false

-- a use of the sentence of number k is in the row
abbrev pub Names : List Use → ℕ → Type 0
Names row k = (u : Use) × Contains row u × (u.sentence ≡ k)

-- for each literal the uses of the sentences that hold its other sign
pub record IsTable (n : ℕ) (uses : List (List Use)) (own : List (List Literal)) : Type 0 where
  pub long : length uses ≡ n * 2
  pub within : All (λ row. All (IsUse own) row) uses
  pub listed : (k : ℕ) (m : Literal) → k < length own → Contains (slice_index_or own k []) m →
      Names (slice_index_or uses (flag_place (negation m)) []) k

-- a list of conflicts for each of n classes, either way round
pub record ConflictsFit (n : ℕ) (conflicts : List (List ℕ)) : Type 0 where
  pub long : length conflicts ≡ n
  pub ranged : All (λ others. All (λ q. q < n) others) conflicts
  pub either_way : (p q : ℕ) → In q (listed_for conflicts p) → In p (listed_for conflicts q)

-- sentences, their table and conflicts of n classes
pub record IsEngine (n : ℕ) (goals own : List (List Literal)) (uses : List (List Use))
    (conflicts : List (List ℕ)) : Type 0 where
  pub goals_ranged : InRange n goals
  pub own_ranged : InRange n own
  pub table : IsTable n uses own
  pub fit : ConflictsFit n conflicts

-- so fit the parts of a formula
abbrev pub IsFormula : ℕ → Formula → Type 0
IsFormula n formula =
    IsEngine n formula.goals.now formula.own.now formula.uses.now formula.conflicts.now

-- the sentence of number k is entered under the other sign of each of its literals, and all former
-- entries stay
pub record Enters (old new : List (List Use)) (sentence : List Literal) (k : ℕ) : Type 0 where
  pub long : length new ≡ length old
  pub kept : (p : ℕ) (u : Use) → Contains (slice_index_or old p []) u →
      Contains (slice_index_or new p []) u
  pub entered : (m : Literal) → Contains sentence m →
      Names (slice_index_or new (flag_place (negation m)) []) k
  pub only : (p : ℕ) (u : Use) → Contains (slice_index_or new p []) u →
      Contains (slice_index_or old p []) u ⊎ IsUseOf sentence k u
