-- Lists that are each kept once. A mark stands for a list: it is the place of that list.
use Rattle.std.specs.Prelude.{◌≡◌, ℕ, ◌<◌, true, List, [], ◌∷◌, ◌++◌, map, length, slice_index_or}
use Rattle.std.specs.Coded.{Coded-set, coded_bool, le_prop}
use Rattle.std.proofs.Common.{◌∙◌, append_assoc, ap, refl, sym}
use Rattle.listed.specs.Lists.{has}

-- the lists that marks stand for
abbrev pub marked : {A : Type 0} → List (List A) → List ℕ → List (List A)
marked distinct marks = map (λ mark. slice_index_or distinct mark []) marks

-- each mark stands for a list, and each list has a mark
pub record AreMarked {A : Type 0} (distinct : List (List A)) (marks : List ℕ) : Type 0 where
  pub within : (k : ℕ) → k < length marks → slice_index_or marks k 0 < length distinct
  pub each : (place : ℕ) → place < length distinct → has marks place ≡ true

-- This fact has one proof at most, so that a value may keep it.
pub AreMarked-prop : {A : Type 0} (distinct : List (List A)) (marks : List ℕ) →
    IsProp (AreMarked distinct marks)
AreMarked-prop distinct marks =
    let within : (k : ℕ) → k < length marks →
    IsProp (slice_index_or marks k 0 < length distinct) = λ k l. le_prop in
    let each : (place : ℕ) → place < length distinct → IsProp (has marks place ≡ true) =
    λ place l. Coded-set coded_bool (has marks place) true in
    hlevel (within, each)

-- A list that is appended to another one, in no step and in two.
pub none_behind : {A : Type 0} (xs : List A) → xs ≡ xs ++ []
none_behind [] = refl
none_behind (x ∷ xs) = ap (λ ys. x ∷ ys) (none_behind xs)

pub behind_both : {A : Type 0} (first second third said more : List A) → second ≡ first ++ said →
    third ≡ second ++ more → third ≡ first ++ (said ++ more)
behind_both first second third said more e f =
    f ∙ ap (λ xs. xs ++ more) e ∙ append_assoc first said more
