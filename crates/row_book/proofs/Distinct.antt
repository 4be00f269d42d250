-- A list without neighbours that are the same has the same numbers, and ascends where it was sorted.
use Rattle.std.proofs.Common.{◌≡◌, ℕ, zero, suc, ◌<◌, ◌≤◌, Bool, true, false, List, [], ◌∷◌, cond, eqb, inl, inr, refl, sym, subst, arith, eq-eqb}
use Rattle.std.proofs.{lemmas.Bool.{both_ways, cases_lt}, lemmas.List.Filters.{dedup_is}, lemmas.List.Kept.{Contains-dedup_nat, Contains-from_dedup}}
use Rattle.std.specs.{List.{dedup, dedup_from}, List.Retain.{DiffersFromLast, IsFiltered}, List.Sorted.{IsNonDecreasing}}
use Rattle.listed.proofs.Lists.{contains_in, in_contains, In_cases, In_none}
use Rattle.listed.specs.Lists.{In, Ascending}

-- without its second element
skipped : (k x : ℕ) (xs : List ℕ) → IsNonDecreasing (k ∷ (x ∷ xs)) → IsNonDecreasing (k ∷ xs)
skipped k x xs up zero zero d l u = omega arith
skipped k x xs up zero (suc j) d l u = up zero (suc (suc j)) d (omega arith) (omega (arith, u))
skipped k x xs up (suc i) zero d l u = absurd (omega arith)
skipped k x xs up (suc i) (suc j) d l u = up (suc (suc i)) (suc (suc j)) d (omega (arith, l)) (omega (arith, u))

-- without its first element
behind : (k : ℕ) (xs : List ℕ) → IsNonDecreasing (k ∷ xs) → IsNonDecreasing xs
behind k xs up i j d l u = up (suc i) (suc j) d (omega (arith, l)) (omega (arith, u))

from_ascends : (k : ℕ) (xs : List ℕ) → IsNonDecreasing (k ∷ xs) → Ascending (dedup_from eqb k xs) × ((n : ℕ) → In n (dedup_from eqb k xs) → k ≤ n)
from_ascends k [] up = ((λ y i. absurd (In_none i), tt), λ n i. elim (In_cases i) [ inl e ↦ omega (arith, e) | inr j ↦ absurd (In_none j) ])
from_ascends k (x ∷ xs) up = pick (eqb x k) refl (from_ascends k xs (skipped k x xs up)) (from_ascends x xs (behind k (x ∷ xs) up))
  where
    pick : (b : Bool) → eqb x k ≡ b → Ascending (dedup_from eqb k xs) × ((n : ℕ) → In n (dedup_from eqb k xs) → k ≤ n) → Ascending (dedup_from eqb x xs) × ((n : ℕ) → In n (dedup_from eqb x xs) → x ≤ n)
        → Ascending (cond b (dedup_from eqb k xs) (k ∷ dedup_from eqb x xs)) × ((n : ℕ) → In n (cond b (dedup_from eqb k xs) (k ∷ dedup_from eqb x xs)) → k ≤ n)
    pick true e same other = same
    pick false e same other =
        let low : k ≤ x = up zero (suc zero) 0 (omega arith) (omega arith) in
        let less : (n : ℕ) → In n (dedup_from eqb x xs) → k < n =
        λ n i. let m : x ≤ n = other.1 n i in
        elim (cases_lt k x) [ inl l ↦ omega (arith, l, m) | inr l ↦ absurd (both_ways (eqb x k) e (eq-eqb x k (omega (arith, l, low)))) ] in (
          (less, other.0),
          λ n i. elim (In_cases i) [ inl s ↦ omega (arith, s) | inr j ↦ let m : k < n = less n j in omega (arith, m) ],
        )

dedup_ascends : (xs : List ℕ) → IsNonDecreasing xs → Ascending (dedup eqb xs)
dedup_ascends [] up = tt
dedup_ascends (x ∷ xs) up = (from_ascends x xs up).0

module _ (xs made : List ℕ) (once : IsFiltered (DiffersFromLast eqb) [] xs made) where
  is : made ≡ dedup eqb xs
  is = dedup_is eqb xs made once

  pub distinct_from : (n : ℕ) → In n made → In n xs
  distinct_from n i = contains_in xs n (Contains-from_dedup eqb xs n (in_contains (dedup eqb xs) n (subst (λ z. In n z) is i)))

  pub distinct_has : (n : ℕ) → In n xs → In n made
  distinct_has n i = subst (λ z. In n z) (sym is) (contains_in (dedup eqb xs) n (Contains-dedup_nat xs n (in_contains xs n i)))

  pub distinct_ascends : IsNonDecreasing xs → Ascending made
  distinct_ascends up = subst Ascending (sym is) (dedup_ascends xs up)
