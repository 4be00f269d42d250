-- Two lists that are compared pair by pair.
use Rattle.std.proofs.Common.{◌≡◌, ℕ, zero, suc, ◌+◌, ◌<◌, Bool, true, false, List, [], ◌∷◌, ◌++◌, length, get_or, take, refl, sym, ap, ◌∙◌, subst, arith}
use Rattle.std.proofs.{lemmas.Bool.{and_from, and_parts, false≢true, false_from_ne_true}, lemmas.List.{take_more}}
use Rattle.std.specs.Cmp.Lexicographic.{pointwise}

module _ {A B : Type 0} (E : A → B → Bool) where
  pair_push : (xs : List A) (ys : List B) (x : A) (y : B) → pointwise E xs ys ≡ true → E x y ≡ true → pointwise E (xs ++ x ∷ []) (ys ++ y ∷ []) ≡ true
  pair_push [] [] x y same pair = and_from (E x y) true pair refl
  pair_push [] (v ∷ vs) x y same pair = absurd (false≢true same)
  pair_push (u ∷ us) [] x y same pair = absurd (false≢true same)
  pair_push (u ∷ us) (v ∷ vs) x y same pair =
      let parts = and_parts (E u v) (pointwise E us vs) same in
      and_from (E u v) (pointwise E (us ++ x ∷ []) (vs ++ y ∷ [])) parts.0 (pair_push us vs x y parts.1 pair)

  -- one more pair
  pub pair_more : (xs : List A) (ys : List B) (i : ℕ) (x : A) (y : B) → i < length xs → i < length ys → x ≡ get_or xs i x → y ≡ get_or ys i y → E x y ≡ true
      → pointwise E (take i xs) (take i ys) ≡ true → pointwise E (take (i + 1) xs) (take (i + 1) ys) ≡ true
  pair_more xs ys i x y l m is other pair same =
      let one : take i xs ++ x ∷ [] ≡ take (i + 1) xs = ap (λ z. take i xs ++ z ∷ []) is ∙ sym (take_more xs i x l) in
      let two : take i ys ++ y ∷ [] ≡ take (i + 1) ys = ap (λ z. take i ys ++ z ∷ []) other ∙ sym (take_more ys i y m) in
      subst (λ zs. pointwise E (take (i + 1) xs) zs ≡ true) two
      (subst (λ zs. pointwise E zs (take i ys ++ y ∷ []) ≡ true) one (pair_push (take i xs) (take i ys) x y same pair))

  pair_at : (xs : List A) (ys : List B) (i : ℕ) (x : A) (y : B) → pointwise E xs ys ≡ true → i < length xs → E (get_or xs i x) (get_or ys i y) ≡ true
  pair_at [] ys i x y same l = absurd (omega arith)
  pair_at (u ∷ us) [] i x y same l = absurd (false≢true same)
  pair_at (u ∷ us) (v ∷ vs) zero x y same l = (and_parts (E u v) (pointwise E us vs) same).0
  pair_at (u ∷ us) (v ∷ vs) (suc i) x y same l = pair_at us vs i x y (and_parts (E u v) (pointwise E us vs) same).1 (omega arith)

  -- a pair that fails
  pub pair_fails : (xs : List A) (ys : List B) (i : ℕ) (x : A) (y : B) → i < length xs → x ≡ get_or xs i x → y ≡ get_or ys i y → E x y ≡ false → false ≡ pointwise E xs ys
  pair_fails xs ys i x y l is other fails = sym (false_from_ne_true (pointwise E xs ys) (λ same.
      let found : E x y ≡ true = ap (λ z. E z y) is ∙ ap (λ z. E (get_or xs i x) z) other ∙ pair_at xs ys i x y same l in
      false≢true (sym fails ∙ found)))
