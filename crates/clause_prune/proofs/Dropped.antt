-- One id less among ids of which each stands at one place.
use Rattle.std.proofs.Common.{◌≡◌, ℕ, zero, suc, ◌<◌, not, cond, List, [], ◌∷◌, ◌++◌, length, get_or, take, drop, inl, inr, refl, sym, ◌∙◌, ap, subst, arith}
use Rattle.std.proofs.{Common.{eq-eqb, ne_eqb}, lemmas.List.{get_or-map, length-map}}
use Rattle.clause_pool.specs.{Interned.{Interned, clause_at, clauses_at}, Lists.{Before, InOrder}}
use Rattle.listed.proofs.Lists.{In_at}
use Rattle.clause_prune.specs.Tests.{ids_without}

kept_first : (x clause : ℕ) (xs ys : List ℕ) → (x ≡ clause → ⊥) → ys ≡ ids_without xs clause → x ∷ ys ≡ ids_without (x ∷ xs) clause
kept_first x clause xs ys ne e =
    ap (λ z. x ∷ z) e ∙ sym (ap (λ b. cond (not b) (x ∷ ids_without xs clause) (ids_without xs clause)) (ne_eqb x clause ne))

pub none_dropped : (xs : List ℕ) (clause : ℕ) → ((k : ℕ) → k < length xs → get_or xs k 0 ≡ clause → ⊥) → xs ≡ ids_without xs clause
none_dropped [] clause f = refl
none_dropped (x ∷ xs) clause f = kept_first x clause xs xs (f 0 (omega arith)) (none_dropped xs clause (λ k l. f (suc k) (omega arith)))

pub one_dropped : (xs : List ℕ) (place clause : ℕ) → ((i j : ℕ) → i < j → j < length xs → get_or xs i 0 ≡ get_or xs j 0 → ⊥) → place < length xs
    → ((k : ℕ) → k < place → get_or xs k 0 ≡ clause → ⊥) → get_or xs place 0 ≡ clause → take place xs ++ drop (suc place) xs ≡ ids_without xs clause
one_dropped [] place clause once l f e = absurd (omega arith)
one_dropped (x ∷ xs) zero clause once l f e =
    none_dropped xs clause (λ k m s. once 0 (suc k) (omega arith) (omega arith) (e ∙ sym s))
    ∙ sym (ap (λ b. cond (not b) (x ∷ ids_without xs clause) (ids_without xs clause)) (eq-eqb x clause e))
one_dropped (x ∷ xs) (suc place) clause once l f e =
    kept_first x clause xs (take place xs ++ drop (suc place) xs) (f 0 (omega arith))
    (one_dropped xs place clause (λ i j m n. once (suc i) (suc j) (omega (arith, m)) (omega (arith, n))) (omega arith) (λ k m. f (suc k) (omega arith)) e)

-- clauses in order differ, and so do their ids
never_before : (c : List ℕ) → Before c c → ⊥
never_before [] b = b
never_before (x ∷ xs) b = elim b [ inl l ↦ let f : x < x = l in omega arith | inr w ↦ never_before xs w.1 ]

in_places : (cs : List (List ℕ)) → InOrder cs → (i j : ℕ) → i < j → j < length cs → Before (get_or cs i []) (get_or cs j [])
in_places [] o i j l m = absurd (omega arith)
in_places (c ∷ cs) o zero zero l m = absurd (omega arith)
in_places (c ∷ cs) o zero (suc j) l m = o.0 (get_or cs j []) (In_at cs j [] (omega arith))
in_places (c ∷ cs) o (suc i) zero l m = absurd (omega arith)
in_places (c ∷ cs) o (suc i) (suc j) l m = in_places cs o.1 i j (omega arith) (omega arith)

pub ids_once : (pool : Interned) (ids : List ℕ) → InOrder (clauses_at pool ids) → (i j : ℕ) → i < j → j < length ids → get_or ids i 0 ≡ get_or ids j 0 → ⊥
ids_once pool ids o i j l m e =
    let size : length (clauses_at pool ids) ≡ length ids = length-map ids (clause_at pool) in
    let first : get_or (clauses_at pool ids) i [] ≡ clause_at pool (get_or ids i 0) = get_or-map (clause_at pool) ids i 0 [] (omega arith) in
    let second : get_or (clauses_at pool ids) j [] ≡ clause_at pool (get_or ids j 0) = get_or-map (clause_at pool) ids j 0 [] m in
    let same : get_or (clauses_at pool ids) j [] ≡ get_or (clauses_at pool ids) i [] = second ∙ ap (clause_at pool) (sym e) ∙ sym first in
    never_before (get_or (clauses_at pool ids) i [])
    (subst (Before (get_or (clauses_at pool ids) i [])) same (in_places (clauses_at pool ids) o i j l (omega (arith, m, size))))
