-- Tests, options and results.
use Rattle.std.proofs.Common.{◌≡◌, ℕ, ◌≤◌, Bool, true, false, ◌||◌, cond, Option, Some, None, ◌⊎◌, inl, inr, refl, sym, arith}
use Rattle.std.specs.{Prelude.{Result, Ok, Err, OnErr, OnOk}, Option.{option_map}}

-- tests that pass together are equal
pub same_bool : (a b : Bool) → (a ≡ true → b ≡ true) → (b ≡ true → a ≡ true) → a ≡ b
same_bool true b f g = sym (f refl)
same_bool false true f g = g refl
same_bool false false f g = refl

-- the weight of a test falls with one more that may pass
pub lighter : (a b : Bool) → cond (a || b) 0 1 ≤ cond a 0 1
lighter true b = omega arith
lighter false true = omega arith
lighter false false = omega arith

-- an option that is filled by a test
pub left_out : (b : Bool) (n : ℕ) → cond b (Some n) None ≡ None → b ≡ false
left_out true n h = cc
left_out false n h = refl

pub cases_Option : {X : Type 0} (o : Option X) → (o ≡ None) ⊎ ((x : X) × (o ≡ Some x))
cases_Option None = inl refl
cases_Option (Some x) = inr (x, refl)

pub map_none : {A B : Type 0} (f : A → B) (o : Option A) → option_map f o ≡ None → o ≡ None
map_none f None h = refl
map_none f (Some x) h = absurd (let never : ⊥ = cc in never)

-- what is said of a refusal, or of an answer, and is true of every result
pub on_err : {A E : Type 0} (P : Type 0) (r : Result A E) → P → OnErr r P
on_err P (Ok x) p = tt
on_err P (Err e) p = p

pub on_ok : {A E : Type 0} {P : Type 0} (r : Result A E) → P → OnOk r P
on_ok (Ok x) p = p
on_ok (Err e) p = tt
