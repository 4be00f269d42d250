-- The law of unions.
use Rattle.std.specs.Prelude.{◌≡◌, ℕ, ◌<◌, List, ◌∷◌}
use Rattle.listed.specs.Lists.{Ascending}
use Rattle.clause_families.specs.Unions.{union_of}

-- a union by merging: of two ascending lists the lesser first number comes first
pub record Merges (x y : ℕ) (xs ys : List ℕ) : Type 0 where
  pub less : x < y → union_of (x ∷ xs) (y ∷ ys) ≡ x ∷ union_of xs (y ∷ ys)
  pub same : x ≡ y → union_of (x ∷ xs) (y ∷ ys) ≡ x ∷ union_of xs ys
  pub more : y < x → union_of (x ∷ xs) (y ∷ ys) ≡ y ∷ union_of (x ∷ xs) ys

-- the union of any two ascending lists is made by merging
abbrev pub UnionMerges : Type 0
UnionMerges = (x y : ℕ) (xs ys : List ℕ) → Ascending (x ∷ xs) →
    Ascending (y ∷ ys) → Merges x y xs ys
