-- Ascending lists, by neighbours.
use Rattle.std.proofs.Common.{ℕ, zero, suc, ◌<◌, ◌≤◌, List, [], ◌∷◌, length, get_or, inl, inr, sym, subst, arith}
use Rattle.listed.specs.Lists.{Ascending, here}
use Rattle.listed.proofs.Lists.{In_cases, In_none}

pub rise : (xs : List ℕ) → ((i : ℕ) → suc i < length xs → get_or xs i 0 < get_or xs (suc i) 0) → Ascending xs
rise [] h = tt
rise (x ∷ []) h = ((λ y i. absurd (In_none i)), tt)
rise (x ∷ (y ∷ ys)) h =
    let more : Ascending (y ∷ ys) = rise (y ∷ ys) (λ i l. h (suc i) (omega arith)) in
    let first : x < y = h 0 (omega arith) in (
      (λ z i. elim (In_cases i) [ inl e ↦ subst (λ k. x < k) (sym e) first | inr j ↦ let l : y < z = more.0 z j in omega arith ]),
      more,
    )

pub fall : (xs : List ℕ) (i : ℕ) → suc i < length xs → get_or xs (suc i) 0 ≤ get_or xs i 0 → Ascending xs → ⊥
fall [] i l g a = omega arith
fall (x ∷ []) i l g a = omega arith
fall (x ∷ (y ∷ ys)) zero l g a = let h : x < y = a.0 y here in omega arith
fall (x ∷ (y ∷ ys)) (suc i) l g a = fall (y ∷ ys) i (omega arith) g a.1
