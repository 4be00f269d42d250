-- The first numbers, those of them that pass a test, and the values at them.
use Rattle.std.proofs.Common.{◌≡◌, ℕ, zero, suc, ◌+◌, Bool, true, false, cond, List, [], ◌∷◌, ◌++◌, map, filter, sym, ap, ◌∙◌, add-one, zero-add, arith}
use Rattle.std.proofs.{lemmas.List.{append-nil}, lemmas.List.Elements.{filter-append}, lemmas.List.FromFn.{map-range_with_len_more}}
use Rattle.std.specs.List.{range_with_len}

pub range_more : (a n : ℕ) → range_with_len a (suc n) ≡ range_with_len a n ++ (a + n) ∷ []
range_more a zero = ap (λ k. k ∷ []) (omega arith)
range_more a (suc n) =
    let same : a + 1 + n ≡ a + suc n = omega arith in
    ap (λ xs. a ∷ xs) (range_more (a + 1) n ∙ ap (λ k. range_with_len (a + 1) n ++ k ∷ []) same)

numbers_more : (p : ℕ → Bool) (n : ℕ) → filter p (range_with_len 0 (n + 1)) ≡ filter p (range_with_len 0 n) ++ cond (p n) (n ∷ []) []
numbers_more p n = rw add-one (ap (filter p) (range_more 0 n ∙ ap (λ k. range_with_len 0 n ++ k ∷ []) (zero-add n)) ∙ filter-append p (range_with_len 0 n) (n ∷ []))

-- one more number that passes, and one that does not
pub number_kept : (p : ℕ → Bool) (n : ℕ) (out new : List ℕ) → p n ≡ true → out ≡ filter p (range_with_len 0 n) → new ≡ out ++ n ∷ [] → new ≡ filter p (range_with_len 0 (n + 1))
number_kept p n out new passes sofar pushed =
    pushed ∙ ap (λ xs. xs ++ n ∷ []) sofar ∙ ap (λ b. filter p (range_with_len 0 n) ++ cond b (n ∷ []) []) (sym passes) ∙ sym (numbers_more p n)

pub number_left : (p : ℕ → Bool) (n : ℕ) (out : List ℕ) → p n ≡ false → out ≡ filter p (range_with_len 0 n) → out ≡ filter p (range_with_len 0 (n + 1))
number_left p n out fails sofar =
    sofar ∙ sym (append-nil (filter p (range_with_len 0 n))) ∙ ap (λ b. filter p (range_with_len 0 n) ++ cond b (n ∷ []) []) (sym fails) ∙ sym (numbers_more p n)

-- the value at one more number
pub number_mapped : {A : Type 0} (f : ℕ → A) (n : ℕ) (out new : List A) (x : A) → x ≡ f n → out ≡ map f (range_with_len 0 n) → new ≡ out ++ x ∷ [] → new ≡ map f (range_with_len 0 (n + 1))
number_mapped f n out new x is sofar pushed =
    pushed ∙ ap (λ xs. xs ++ x ∷ []) sofar ∙ ap (λ y. map f (range_with_len 0 n) ++ y ∷ []) is ∙ sym (map-range_with_len_more f 0 n n (zero-add n))
