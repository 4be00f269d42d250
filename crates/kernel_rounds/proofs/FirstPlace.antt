-- The first place of a list that passes a test.
use Rattle.std.proofs.Common.{◌≡◌, ℕ, zero, suc, ◌<◌, Bool, true, false, cond, List, [], ◌∷◌, length, get_or, refl, sym, ◌∙◌, ap, arith}
use Rattle.row_book.specs.Merging.{place_of}

-- the first place that passes
pub place_first : (test : ℕ → Bool) (xs : List ℕ) (i : ℕ) → i < length xs → ((k : ℕ) → k < i → test (get_or xs k 0) ≡ false) → test (get_or xs i 0) ≡ true → i ≡ place_of test xs
place_first test [] i l f e = absurd (omega arith)
place_first test (x ∷ xs) zero l f e = sym (ap (λ b. cond b 0 (suc (place_of test xs))) e)
place_first test (x ∷ xs) (suc i) l f e =
    ap suc (place_first test xs i (omega arith) (λ k m. f (suc k) (omega arith)) e) ∙ sym (ap (λ b. cond b 0 (suc (place_of test xs))) (f 0 (omega arith)))

pub place_none : (test : ℕ → Bool) (xs : List ℕ) → ((k : ℕ) → k < length xs → test (get_or xs k 0) ≡ false) → length xs ≡ place_of test xs
place_none test [] f = refl
place_none test (x ∷ xs) f = ap suc (place_none test xs (λ k m. f (suc k) (omega arith))) ∙ sym (ap (λ b. cond b 0 (suc (place_of test xs))) (f 0 (omega arith)))
