-- The numbers that runs of digits write, compared as runs.
use Rattle.std.proofs.Common.{◌≡◌, ◌≢◌, ℕ, zero, suc, ◌+◌, ◌-◌, ◌*◌, ◌<◌, ◌≤◌, Bool, true, false, cond, List, [], ◌∷◌, length, drop, refl, sym, ap, ◌∙◌, arith}
use Rattle.std.proofs.{lemmas.Bool.{and_parts, eqb-true}, lemmas.Bool.Decides.{nat_tests}, lemmas.Cmp.{ranked, by_ranked, tied_itself, nat_cmp_total}}
use Rattle.std.specs.{Prelude.{◌==◌}, declared.cmp.Ordering.TheVariants.{Less, Greater}, Char.{is_ascii_digit}, Cmp.{nat_cmp_is}, Cmp.Lexicographic.{slice_cmp}}
use Rattle.std.specs.{List.{fold, list_all, prefix_len}, Ordering.{ordering_then, nat_cmp}}
use Rattle.deb_version.specs.Order.{number}

-- the number of digits that follow those of n
abbrev after : ℕ → List ℕ → ℕ
after n digits = fold (λ m c. 10 * m + (c - 48)) n digits

abbrev zeros : List ℕ → ℕ
zeros digits = prefix_len (λ c. c == 48) digits

digit_range : (c : ℕ) → is_ascii_digit c ≡ true → (48 ≤ c) × (c < 58)
digit_range c h = grind (arith, nat_tests)

less : (m n : ℕ) → m < n → nat_cmp m n ≡ Less
less m n h = sym (nat_cmp_is m n Less h)

greater : (m n : ℕ) → n < m → nat_cmp m n ≡ Greater
greater m n h = sym (nat_cmp_is m n Greater h)

-- of two runs that follow different numbers, the one behind the greater number and no shorter writes more
after-lt : (m n : ℕ) (a b : List ℕ) → m < n → length a ≤ length b → list_all is_ascii_digit a ≡ true → after m a < after n b
after-lt m n [] [] h l d = h
after-lt m n [] (y ∷ ys) h l d = after-lt m (10 * n + (y - 48)) [] ys (omega arith) (omega arith) refl
after-lt m n (x ∷ xs) [] h l d = absurd (omega arith)
after-lt m n (x ∷ xs) (y ∷ ys) h l d =
    let both = and_parts _ _ d in
    let small = digit_range x both.0 in
    after-lt (10 * m + (x - 48)) (10 * n + (y - 48)) xs ys (omega arith) (omega arith) both.1

-- runs of one length, by the first digit that differs
after-same : (n : ℕ) (a b : List ℕ) → length a ≡ length b → list_all is_ascii_digit a ≡ true → list_all is_ascii_digit b ≡ true → nat_cmp (after n a) (after n b) ≡ slice_cmp nat_cmp a b
after-same n [] [] l d e = tied_itself nat_cmp_total n
after-same n [] (y ∷ ys) l d e = absurd (omega arith)
after-same n (x ∷ xs) [] l d e = absurd (omega arith)
after-same n (x ∷ xs) (y ∷ ys) l d e =
    let left = and_parts _ _ d in
    let right = and_parts _ _ e in
    let small = digit_range x left.0 in
    let large = digit_range y right.0 in
    by_ranked (x < y) (x ≡ y) (y < x) (nat_cmp x y) (ranked x y (nat_cmp x y) refl)
    (λ is h. rw is (less _ _ (after-lt (10 * n + (x - 48)) (10 * n + (y - 48)) xs ys (omega arith) (omega arith) left.1)))
    (λ is h. rw is (ap (λ m. nat_cmp (after (10 * n + (x - 48)) xs) (after (10 * n + (m - 48)) ys)) (sym h) ∙ after-same (10 * n + (x - 48)) xs ys (omega arith) left.1 right.1))
    (λ is h. rw is (greater _ _ (after-lt (10 * n + (y - 48)) (10 * n + (x - 48)) ys xs (omega arith) (omega arith) right.1)))

-- a longer run that begins with no zero writes more
number-longer : (a b : List ℕ) → length a < length b → zeros b ≡ 0 → list_all is_ascii_digit a ≡ true → list_all is_ascii_digit b ≡ true → number a < number b
number-longer a [] l z d e = absurd (omega arith)
number-longer a (y ∷ ys) l z d e =
    let right = and_parts _ _ e in
    let large = digit_range y right.0 in
    let some : y ≢ 48 = λ is. grind (arith, nat_tests) in
    after-lt 0 (10 * 0 + (y - 48)) a ys (omega arith) (omega arith) d

-- two runs that begin with no zero, by their lengths and then digit by digit
compared : (a b : List ℕ) → zeros a ≡ 0 → zeros b ≡ 0 → list_all is_ascii_digit a ≡ true → list_all is_ascii_digit b ≡ true → ordering_then (nat_cmp (length a) (length b)) (slice_cmp nat_cmp a b) ≡ nat_cmp (number a) (number b)
compared a b y z d e =
    by_ranked (length a < length b) (length a ≡ length b) (length b < length a) (nat_cmp (length a) (length b)) (ranked (length a) (length b) (nat_cmp (length a) (length b)) refl)
    (λ is h. rw is (sym (less _ _ (number-longer a b h z d e))))
    (λ is h. rw is (sym (after-same 0 a b h d e)))
    (λ is h. rw is (sym (greater _ _ (number-longer b a h y e d))))

pub number-without_zeros : (a : List ℕ) → number (drop (zeros a) a) ≡ number a
number-without_zeros [] = refl
number-without_zeros (x ∷ xs) =
    elim (x == 48) as (λ b. (x == 48) ≡ b → number (drop (cond b (1 + zeros xs) 0) (x ∷ xs)) ≡ number (x ∷ xs)) [
      | true ↦ λ is.
          let same : x ≡ 48 = eqb-true x 48 is in
          let more : 1 + zeros xs ≡ suc (zeros xs) = omega arith in
          let nothing : 0 ≡ 10 * 0 + (x - 48) = omega arith in
          ap (λ n. number (drop n (x ∷ xs))) more ∙ number-without_zeros xs ∙ ap (λ n. after n xs) nothing
      | false ↦ λ is. refl
    ] refl

zeros-without_zeros : (a : List ℕ) → zeros (drop (zeros a) a) ≡ 0
zeros-without_zeros [] = refl
zeros-without_zeros (x ∷ xs) =
    elim (x == 48) as (λ b. (x == 48) ≡ b → zeros (drop (cond b (1 + zeros xs) 0) (x ∷ xs)) ≡ 0) [
      | true ↦ λ is.
          let more : 1 + zeros xs ≡ suc (zeros xs) = omega arith in
          ap (λ n. zeros (drop n (x ∷ xs))) more ∙ zeros-without_zeros xs
      | false ↦ λ is. rw is refl
    ] refl

pub list_all-drop : (p : ℕ → Bool) (n : ℕ) (xs : List ℕ) → list_all p xs ≡ true → list_all p (drop n xs) ≡ true
list_all-drop p zero xs h = h
list_all-drop p (suc n) [] h = refl
list_all-drop p (suc n) (x ∷ xs) h = let both = and_parts _ _ h in list_all-drop p n xs both.1

-- two runs, once their leading zeros are left out
pub order_by_runs : (a b : List ℕ) → list_all is_ascii_digit a ≡ true → list_all is_ascii_digit b ≡ true →
    ordering_then (nat_cmp (length (drop (zeros a) a)) (length (drop (zeros b) b))) (slice_cmp nat_cmp (drop (zeros a) a) (drop (zeros b) b)) ≡ nat_cmp (number a) (number b)
order_by_runs a b d e =
    compared (drop (zeros a) a) (drop (zeros b) b) (zeros-without_zeros a) (zeros-without_zeros b) (list_all-drop is_ascii_digit (zeros a) a d) (list_all-drop is_ascii_digit (zeros b) b e)
    ∙ rw (number-without_zeros a, number-without_zeros b) refl
