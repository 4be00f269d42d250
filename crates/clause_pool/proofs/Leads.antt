-- Tests of lists at their places, and clauses in lexicographic order, which rise with what they begin with.
use Rattle.std.proofs.Common.{◌≡◌, ℕ, zero, suc, ◌<◌, ◌≤◌, Bool, true, false, ◌&&◌, List, [], ◌∷◌, length, get_or, inl, inr, refl, ◌∙◌, ap, arith, zero-le}
use Rattle.std.specs.List.{list_all}
use Rattle.clause_pool.specs.{Lists.{Before, InOrder}, Within.{lead}}
use Rattle.listed.proofs.Lists.{In_at}

-- a test over numbers
and_false : (a b : Bool) → b ≡ false → (a && b) ≡ false
and_false true b e = e
and_false false b e = refl

pub all_fails : (f : ℕ → Bool) (xs : List ℕ) (i : ℕ) → i < length xs → f (get_or xs i 0) ≡ false → list_all f xs ≡ false
all_fails f [] i l e = absurd (omega arith)
all_fails f (x ∷ xs) zero l e = ap (λ z. z && list_all f xs) e
all_fails f (x ∷ xs) (suc i) l e = and_false (f x) (list_all f xs) (all_fails f xs i (omega arith) e)

pub all_pass : (f : ℕ → Bool) (xs : List ℕ) → ((k : ℕ) → k < length xs → f (get_or xs k 0) ≡ true) → list_all f xs ≡ true
all_pass f [] h = refl
all_pass f (x ∷ xs) h = ap (λ z. z && list_all f xs) (h 0 (omega arith)) ∙ all_pass f xs (λ k l. h (suc k) (omega arith))

-- the order of clauses
lead_before : (c d : List ℕ) → Before c d → lead c ≤ lead d
lead_before [] d b = zero-le
lead_before (x ∷ xs) [] b = absurd b
lead_before (x ∷ xs) (y ∷ ys) b = elim b [ inl l ↦ omega (arith, l) | inr w ↦ let e : x ≡ y = w.0 in omega (arith, e) ]

pub order_lead : (cs : List (List ℕ)) → InOrder cs → (i j : ℕ) → i ≤ j → j < length cs → lead (get_or cs i []) ≤ lead (get_or cs j [])
order_lead [] o i j l m = absurd (omega arith)
order_lead (c ∷ cs) o zero zero l m = omega arith
order_lead (c ∷ cs) o zero (suc j) l m = lead_before c (get_or cs j []) (o.0 (get_or cs j []) (In_at cs j [] (omega arith)))
order_lead (c ∷ cs) o (suc i) zero l m = absurd (omega arith)
order_lead (c ∷ cs) o (suc i) (suc j) l m = order_lead cs o.1 i j (omega arith) (omega arith)
