-- The levels of a search: for each front of the decisions the trail up to its level is its closure,
-- which does not clash.
use Rattle.std.specs.Prelude.{◌≡◌, ℕ, ◌≤◌, Bool, true, false, List, [], ◌∷◌, ◌++◌, length, take}
use Rattle.search_terms.specs.{declared.literals.Literal.{Literal}, Closure.{IsClosure, Clashes}}
use Rattle.search_terms.specs.{Marks.{IsConsistent}, Tree.{is_undecided}}
use Rattle.clause_solver.specs.Marking.{set_of_trail}

-- the trail is the closure of the decisions, and no class has both signs
pub record CalmAt (formula : List (List Literal)) (decisions trail : List Literal) : Type 0 where
  pub closure : IsClosure formula decisions (set_of_trail trail)
  pub consistent : IsConsistent (set_of_trail trail)

-- so it is at each level, and the last decision was undecided at the level below it
pub data IsLayered (formula : List (List Literal)) : List Literal → List ℕ →
    List Literal → Type 0 where
  at_root : {decisions : List Literal} {levels : List ℕ} {trail : List Literal} → decisions ≡ [] →
      CalmAt formula [] trail → IsLayered formula decisions levels trail
  level : {decisions : List Literal} {levels : List ℕ} {trail : List Literal} (above : List Literal)
      (d : Literal) (lower : List ℕ) (h : ℕ) →
      decisions ≡ above ++ d ∷ [] → levels ≡ lower ++ h ∷ [] → h ≤ length trail →
      is_undecided (set_of_trail (take h trail)) d ≡ true →
      IsLayered formula above lower (take h trail) → CalmAt formula decisions trail →
      IsLayered formula decisions levels trail

-- so it is at each level but the last
pub data IsFallen (formula : List (List Literal)) : List Literal → List ℕ →
    List Literal → Type 0 where
  nowhere : {decisions : List Literal} {levels : List ℕ} {trail : List Literal} → decisions ≡ [] →
      IsFallen formula decisions levels trail
  below : {decisions : List Literal} {levels : List ℕ} {trail : List Literal} (above : List Literal)
      (d : Literal) (lower : List ℕ) (h : ℕ) →
      decisions ≡ above ++ d ∷ [] → levels ≡ lower ++ h ∷ [] → h ≤ length trail →
      is_undecided (set_of_trail (take h trail)) d ≡ true →
      IsLayered formula above lower (take h trail) → IsFallen formula decisions levels trail

-- the last decision is to be assumed: it is undecided by the trail, which is that of the level
-- below
pub record IsToAssume (formula : List (List Literal)) (decisions : List Literal) (levels : List ℕ)
    (trail : List Literal) (l : Literal) : Type 0 where
  pub above : List Literal
  pub lower : List ℕ
  pub last : decisions ≡ above ++ l ∷ []
  pub height : levels ≡ lower ++ length trail ∷ []
  pub undecided : is_undecided (set_of_trail trail) l ≡ true
  pub layered : IsLayered formula above lower trail

-- how the search stands: after a contradiction, or not
abbrev pub IsAt : Bool → List (List Literal) → List Literal → List ℕ → List Literal → Type 0
IsAt true formula decisions levels trail =
    Clashes formula decisions × IsFallen formula decisions levels trail
IsAt false formula decisions levels trail = IsLayered formula decisions levels trail
