-- The places of a list's elements, and the numbers of a range.
use Rattle.std.proofs.{Common.{ℕ, zero, suc, ◌<◌, ◌≤◌, ◌+◌, ◌∷◌, inl, inr, subst, arith}, lemmas.Bool.{cases_eq}}
use Rattle.std.specs.List.{range_with_len}
pub use Rattle.clause_pool.proofs.Lists.{In_at as at_place, In_place as place_of}
use Rattle.listed.specs.Lists.{Ascending, In, here, there}
use Rattle.listed.proofs.Lists.{In_cases, In_none}

-- n numbers from k on
pub range_from : (n k m : ℕ) → k ≤ m → m < k + n → In m (range_with_len k n)
range_from zero k m l u = absurd (omega arith)
range_from (suc n) k m l u =
    elim (cases_eq m k) [
      | inl e ↦ subst (λ z. In m (z ∷ range_with_len (k + 1) n)) e here
      | inr ne ↦ there (range_from n (k + 1) m (omega (arith, ne)) (omega arith))
    ]

pub range_cases : (n k m : ℕ) → In m (range_with_len k n) → (k ≤ m) × (m < k + n)
range_cases zero k m i = absurd (In_none i)
range_cases (suc n) k m i =
    elim (In_cases i) [
      | inl e ↦ (omega (arith, e), omega (arith, e))
      | inr j ↦ let w : (k + 1 ≤ m) × (m < k + 1 + n) = range_cases n (k + 1) m j in (omega arith, omega arith)
    ]

pub range_ascending : (n k : ℕ) → Ascending (range_with_len k n)
range_ascending zero k = tt
range_ascending (suc n) k =
    ((λ y i. let w : (k + 1 ≤ y) × (y < k + 1 + n) = range_cases n (k + 1) y i in omega arith), range_ascending n (k + 1))
