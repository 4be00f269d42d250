-- for the bodies of this crate alone
-- Propagation: sentences that are met, that wait for a literal to be looked at, or that are
-- refuted.
use Rattle.std.specs.Prelude.{◌≡◌, ℕ, Bool, true, List, ◌++◌, ◌⊎◌, drop, Contains}
use Rattle.search_terms.specs.declared.literals.Literal.{Literal}
use Rattle.search_terms.specs.Closure.{negation, is_refuted, IsClosedUnder, IsUnitClosed}
use Rattle.search_terms.specs.Marks.{IsWithin, IsConsistent}
use Rattle.clause_solver.specs.Marking.{set_of_trail}

-- a sentence of the formula is refuted
abbrev pub HasRefuted : List (List Literal) → (Literal → Bool) → Type 0
HasRefuted formula set = (s : List Literal) × Contains formula s × (is_refuted set s ≡ true)

-- new literals are appended to the old ones: no class has both signs, and each is in each closed
-- set that has the old ones
pub record Runs (formula : List (List Literal)) (old new : List Literal) : Type 0 where
  pub more : List Literal
  pub behind : new ≡ old ++ more
  pub consistent : IsConsistent (set_of_trail new)
  pub sound : (set : Literal → Bool) → IsUnitClosed formula set → IsWithin (set_of_trail old) set →
      IsWithin (set_of_trail new) set

-- a literal that contradicts one of the sentence's has not been looked at yet
abbrev pub IsPending : List Literal → List Literal → Type 0
IsPending queue sentence = (m : Literal) × Contains sentence m × Contains queue (negation m)

-- the literals of the trail from the height on have not been looked at: the sentence is met, or one
-- of them is on it
abbrev pub Waits : ℕ → List Literal → List Literal → Type 0
Waits height trail sentence =
    IsClosedUnder (set_of_trail trail) sentence ⊎ IsPending (drop height trail) sentence
