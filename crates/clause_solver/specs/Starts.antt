-- for the bodies of this crate alone
-- Starts of the search for the first open need.
use Rattle.std.specs.Prelude.{◌≡◌, ℕ, ◌<◌, ◌≤◌, Bool, true, false, List, [], ◌∷◌, ◌++◌, All}
use Rattle.std.specs.Prelude.{Contains, length, take, slice_index_or, ◌⊎◌}
use Rattle.search_terms.specs.{declared.literals.Literal.{Literal}, Marks.{flag_place}}
use Rattle.search_terms.specs.Tree.{is_open_need}
use Rattle.clause_solver.specs.{Marking.{set_of_trail}, declared.nodes.Start.{Start}}
use Rattle.clause_solver.specs.declared.table.Use.{Use}

-- the trail leaves no sentence before the place open
abbrev pub NoneBefore : List (List Literal) → List Literal → ℕ → Type 0
NoneBefore own trail place = (k : ℕ) → k < place →
    is_open_need (set_of_trail trail) (slice_index_or own k []) ≡ false

-- so it is for a front of the trail
pub record IsStart (own : List (List Literal)) (trail : List Literal) (start : Start) : Type 0 where
  pub height : start.height ≤ length trail
  pub place : start.place ≤ length own
  pub none : NoneBefore own (take start.height trail) start.place

-- the place of the first open sentence, or the number of sentences
pub record IsFirstOpen (own : List (List Literal)) (trail : List Literal) (place : ℕ) : Type 0 where
  pub within : place ≤ length own
  pub opens : place < length own →
      is_open_need (set_of_trail trail) (slice_index_or own place []) ≡ true
  pub none : NoneBefore own trail place

-- the first place of an open sentence from one place on and before another, or else the other
pub record IsNextOpen (set : Literal → Bool) (own : List (List Literal))
    (from end place : ℕ) : Type 0 where
  pub lower : from ≤ place
  pub within : place ≤ end
  pub opens : place < end → is_open_need set (slice_index_or own place []) ≡ true
  pub none : (k : ℕ) → from ≤ k → k < place → is_open_need set (slice_index_or own k []) ≡ false

-- the rows of the true literals so far have no open sentence below the least
pub record IsSwept (set : Literal → Bool) (own : List (List Literal)) (uses : List (List Use))
    (seen : List Literal) (before least : ℕ) : Type 0 where
  pub lower : least ≤ before
  pub opens : (least ≡ before) ⊎ (is_open_need set (slice_index_or own least []) ≡ true)
  pub none : All (λ l. l.positive ≡ true →
      (u : Use) → Contains (slice_index_or uses (flag_place l) []) u → u.sentence < least →
      is_open_need set (slice_index_or own u.sentence []) ≡ false) seen

-- for each level a start at the trail up to it
pub data AreStarts (own : List (List Literal)) : List ℕ → List Start → List Literal → Type 0 where
  at_root : {levels : List ℕ} {starts : List Start} {trail : List Literal} → levels ≡ [] →
      starts ≡ [] → AreStarts own levels starts trail
  level : {levels : List ℕ} {starts : List Start} {trail : List Literal} (lower : List ℕ) (h : ℕ)
      (rest : List Start) (start : Start) →
      levels ≡ lower ++ h ∷ [] → starts ≡ rest ++ start ∷ [] → IsStart own (take h trail) start →
      AreStarts own lower rest (take h trail) → AreStarts own levels starts trail

-- the last level is the height of the trail, and has a start
pub record IsStarted (own : List (List Literal)) (levels : List ℕ) (starts : List Start)
    (trail : List Literal) (start : Start) : Type 0 where
  pub lower : List ℕ
  pub rest : List Start
  pub height : levels ≡ lower ++ length trail ∷ []
  pub last : starts ≡ rest ++ start ∷ []
  pub here : IsStart own trail start
  pub below : AreStarts own lower rest trail
