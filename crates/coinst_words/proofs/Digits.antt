-- Numbers of decimal digits.
use Rattle.std.proofs.Common.{◌≡◌, ◌∙◌, ◌<◌, ◌≤◌, ◌==◌, ◌&&◌, ◌^◌, ℕ, Bool, cond, true, false, nat_le, nat_lt, refl, sym, ap, subst, List, [], ◌∷◌, length}
use Rattle.std.proofs.{Common.{drop, None, arith}, lemmas.Bool.{leb-true, lt-ltb, le-ltb, ne_eqb, and_parts}}
use Rattle.std.specs.{Char.{digit_value, is_ascii_digit}, List.{list_all}, Str.Parse.{AllDigits, IsNumeral, digits_value, without_leading_plus}}
use Rattle.coinst_words.specs.Words.{is_number, is_within, number_in}

digit_range : (c : ℕ) → is_ascii_digit c ≡ true → (48 ≤ c) × (c ≤ 57)
digit_range c e = let h = and_parts (nat_le 48 c) (nat_le c 57) e in (leb-true 48 c h.0, leb-true c 57 h.1)

digit_small : (c : ℕ) → 48 ≤ c → c ≤ 57 → digit_value c < 10
digit_small c low high =
    let a : nat_lt c 48 ≡ false = le-ltb c 48 low in
    let b : nat_lt c 58 ≡ true = lt-ltb c 58 (omega arith) in
    rw (a, b) (omega arith)

all_digits : (ds : List ℕ) → list_all is_ascii_digit ds ≡ true → AllDigits 10 ds
all_digits [] e = tt
all_digits (d ∷ ds) e =
    let h = and_parts (is_ascii_digit d) (list_all is_ascii_digit ds) e in
    let r = digit_range d h.0 in
    (digit_small d r.0 r.1, all_digits ds h.1)

no_plus : (ds : List ℕ) → list_all is_ascii_digit ds ≡ true → without_leading_plus ds ≡ ds
no_plus [] e = refl
no_plus (d ∷ ds) e =
    let h = and_parts (is_ascii_digit d) (list_all is_ascii_digit ds) e in
    let r = digit_range d h.0 in
    let other : (d == 43) ≡ false = ne_eqb d 43 (λ is. omega arith) in
    ap (λ b. drop (cond b 1 0) (d ∷ ds)) other

module _ (word : List ℕ) (number : is_number word ≡ true) where
  digits : list_all is_ascii_digit word ≡ true
  digits = (and_parts (nat_le (length word) 20) (list_all is_ascii_digit word) (and_parts (nat_le 1 (length word)) (nat_le (length word) 20 && list_all is_ascii_digit word) number).1).1

  some : 0 < length word
  some = let h : 1 ≤ length word = leb-true 1 (length word) (and_parts (nat_le 1 (length word)) (nat_le (length word) 20 && list_all is_ascii_digit word) number).0 in omega arith

  pub too_large : (least most : ℕ) → most < 2 ^ 64 → (IsNumeral 10 (without_leading_plus word) × (digits_value 10 (without_leading_plus word) < 2 ^ 64) → ⊥) → None ≡ number_in least most word
  too_large least most fits bad = go (is_within least most (digits_value 10 word)) refl
    where
      go : (b : Bool) → is_within least most (digits_value 10 word) ≡ b → None ≡ number_in least most word
      go false w = rw (number, w) refl
      go true w =
          let high : digits_value 10 word ≤ most = leb-true (digits_value 10 word) most (and_parts (nat_le least (digits_value 10 word)) (nat_le (digits_value 10 word) most) w).1 in
          let same = no_plus word digits in
          let small : digits_value 10 word < 2 ^ 64 = omega arith in
          absurd (bad (subst (λ (ds : List ℕ). IsNumeral 10 ds × (digits_value 10 ds < 2 ^ 64)) (sym same) ((some, all_digits word digits), small)))

  pub read_as : (n : ℕ) → n ≡ digits_value 10 (without_leading_plus word) → n ≡ digits_value 10 word
  read_as n is = is ∙ ap (digits_value 10) (no_plus word digits)
