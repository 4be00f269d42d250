-- Further definitions, for the bodies of the search and of the checker, and for the proofs.
use Rattle.std.specs.Prelude.{◌≡◌, ℕ, zero, suc, ◌+◌, ◌*◌, Bool, true, false, ◌==◌, ◌⊎◌, List, map}
use Rattle.std.specs.Prelude.{slice_index_or, Contains, if◌then◌else◌}
use Rattle.std.specs.List.{list_any, range_with_len}
use Rattle.search_terms.specs.declared.literals.Literal.{Literal}
use Rattle.search_terms.specs.Closure.{literal, negation, forces, is_refuted}

-- a set has some class with both signs
abbrev pub HasBoth : (Literal → Bool) → Type 0
HasBoth set = (l : Literal) × (set l ≡ true) × (set (negation l) ≡ true)

-- a set clashes by itself; for a closure this says that the given literals clash
abbrev pub HasClash : List (List Literal) → (Literal → Bool) → Type 0
HasClash formula set = HasBoth set ⊎ (list_any (is_refuted set) formula ≡ true)

-- each literal of the first set is in the second
abbrev pub IsWithin : (Literal → Bool) → (Literal → Bool) → Type 0
IsWithin first second = (l : Literal) → first l ≡ true → second l ≡ true

-- no class has both signs
abbrev pub IsConsistent : (Literal → Bool) → Type 0
IsConsistent set = (l : Literal) → set l ≡ true → set (negation l) ≡ true → ⊥

-- a sentence forces the literal, which is not in the set
pub record IsForced (formula : List (List Literal)) (set : Literal → Bool)
    (l : Literal) : Type 0 where
  pub sentence : List Literal
  pub here : Contains formula sentence
  pub member : Contains sentence l
  pub forced : forces set l sentence ≡ true
  pub absent : set l ≡ false

-- Marks are two flags for each class, the one of the negative sign first.
--
-- the place of a literal's flag
abbrev pub flag_place : Literal → ℕ
flag_place l = l.class * 2 + (if l.positive then 1 else 0)

-- whether the literal's flag is up
abbrev pub is_marked : List Bool → Literal → Bool
is_marked flags l = slice_index_or flags (flag_place l) false

-- whether a decision is on the class
abbrev pub is_decided : ℕ → List Literal → Bool
is_decided c decisions = list_any (λ l. l.class == c) decisions

-- how many of the classes below a number have no decision
abbrev pub classes_left : ℕ → List Literal → ℕ
classes_left zero decisions = 0
classes_left (suc n) decisions =
    (if is_decided n decisions then 0 else 1) + classes_left n decisions

-- the flags of the true classes of a set
abbrev pub true_classes : ℕ → (Literal → Bool) → List Bool
true_classes classes set = map (λ c. set (literal c true)) (range_with_len 0 classes)
