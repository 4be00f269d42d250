-- Numbers that ascend and clauses in order, by their places.
use Rattle.std.proofs.{Common.{◌≡◌, ℕ, zero, suc, ◌<◌, Bool, false, refl, List, [], ◌∷◌, length, get_or, arith}, lemmas.Bool.{or_from}}
use Rattle.std.specs.List.{list_any}
use Rattle.clause_pool.proofs.Lists.{In_at}
use Rattle.clause_pool.specs.Lists.{Before, InOrder}

-- each clause of a family in order comes before those behind it
pub order_places : (cs : List (List ℕ)) → InOrder cs → (i j : ℕ) → i < j → j < length cs → (d : List ℕ) → Before (get_or cs i d) (get_or cs j d)
order_places [] a i j l u d = absurd (omega arith)
order_places (c ∷ cs) a zero zero l u d = absurd (omega arith)
order_places (c ∷ cs) a zero (suc j) l u d = a.0 (get_or cs j d) (In_at cs j d (omega arith))
order_places (c ∷ cs) a (suc i) zero l u d = absurd (omega arith)
order_places (c ∷ cs) a (suc i) (suc j) l u d = order_places cs a.1 i j (omega arith) (omega arith) d

-- no element passes a test that fails at each place
pub none_places : (test : List ℕ → Bool) (cs : List (List ℕ)) → ((k : ℕ) → k < length cs → test (get_or cs k []) ≡ false) → list_any test cs ≡ false
none_places test [] f = refl
none_places test (c ∷ cs) f = or_from (test c) (list_any test cs) (f 0 (omega arith)) (none_places test cs (λ k l. f (suc k) (omega arith)))
