-- Facts on pools have one proof at most, so that a struct may keep them as ghost fields.
use Rattle.std.specs.Prelude.{◌≡◌, ◌⊎◌, ℕ, List, [], ◌∷◌}
use Rattle.std.specs.Coded.{Coded-set, coded_ℕ, ×_prop, Unit-prop, le_prop}
use Rattle.std.proofs.{Common.{ap, inl, inr}, Math.Nat.{ne_of_lt}}
use Rattle.clause_pool.specs.{Interned.{Interned, IsPool}, Lists.{Ascending, Before, In, InOrder}}

pub Ascending-prop : (xs : List ℕ) → IsProp (Ascending xs)
Ascending-prop [] = Unit-prop
Ascending-prop (x ∷ xs) = ×_prop (hlevel le_prop) (Ascending-prop xs)

number-set : IsSet ℕ
number-set = Coded-set coded_ℕ

⊥-prop : IsProp ⊥
⊥-prop h i = absurd h

-- of two facts that exclude each other, one or the other: if each has one proof at most, so does
-- this
either-prop : {A B : Type 0} → IsProp A → IsProp B → (A → B → ⊥) → IsProp (A ⊎ B)
either-prop a b apart (inl h) (inl i) = ap inl (a h i)
either-prop a b apart (inl h) (inr i) = absurd (apart h i)
either-prop a b apart (inr h) (inl i) = absurd (apart i h)
either-prop a b apart (inr h) (inr i) = ap inr (b h i)

Before-prop : (xs ys : List ℕ) → IsProp (Before xs ys)
Before-prop [] [] = ⊥-prop
Before-prop [] (y ∷ ys) = Unit-prop
Before-prop (x ∷ xs) [] = ⊥-prop
Before-prop (x ∷ xs) (y ∷ ys) = either-prop (hlevel le_prop)
    (×_prop (number-set x y) (Before-prop xs ys)) (λ l e. ne_of_lt l e.0)

InOrder-prop : (cs : List (List ℕ)) → IsProp (InOrder cs)
InOrder-prop [] = Unit-prop
InOrder-prop (c ∷ cs) =
    let first : IsProp ((d : List ℕ) → In d cs → Before c d) = hlevel Before-prop in
    ×_prop first (InOrder-prop cs)

pub IsPool-prop : (pool : Interned) → IsProp (IsPool pool)
IsPool-prop pool = hlevel (number-set, Ascending-prop, InOrder-prop, le_prop)
