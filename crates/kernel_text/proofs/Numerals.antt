-- Numbers and the digits that write them.
use Rattle.std.proofs.Common.{◌≡◌, ℕ, ◌+◌, ◌-◌, ◌*◌, ◌^◌, ◌<◌, ◌≤◌, true, not, ◌&&◌, ◌||◌, ◌==◌, nat_le, eq-eqb, eqb-true, List, length, get_or, slice_index}
use Rattle.std.proofs.Common.{inl, inr, sym, ap, rules, arith}
use Rattle.std.proofs.lemmas.Bool.{and_parts, and_from, or_cases, or_left, or_right, false_from_ne_true, not_from_false, not-true, both_ways, cases_eq}
use Rattle.std.proofs.lemmas.Fmt.{decimal_nonempty, decimal_digit, length-decimal-le, first_decimal, digits_decimal, digits_value-decimal, decimal-digits_value}
use Rattle.std.proofs.lemmas.Str.Parse.{IsNumeralModel, numerals_by_fold}
use Rattle.std.specs.{Char.{is_ascii_digit}, Fmt.{decimal}, List.{fold, list_all}}
use Rattle.deb_version.specs.Order.{number}
use Rattle.kernel_text.specs.{Numbers.{is_numeral}, Reading.{number_limit}}

own : IsNumeralModel (λ ds. list_all is_ascii_digit ds ≡ true) number
own = numerals_by_fold _ (search rules) (λ n ds. fold (λ n c. 10 * n + (c - 48)) n ds) (search rules)

low_enough : (n : ℕ) → n < number_limit → (n < 2 ^ 64) × (n < 10 ^ 10)
unfolding number_limit
low_enough n l = (omega arith, omega arith)

no_zero_ahead : (n : ℕ) → n < 2 ^ 64 → (length (decimal n) == 1 || not (slice_index (decimal n) 0 == 48)) ≡ true
no_zero_ahead n l =
    elim (cases_eq n 0) [
      | inl e ↦ or_left (length (decimal n) == 1) (not (slice_index (decimal n) 0 == 48)) (eq-eqb (length (decimal n)) 1 (ap length (decimal_digit n (omega (arith, e)))))
      | inr ne ↦ or_right (length (decimal n) == 1) (not (slice_index (decimal n) 0 == 48))
          (not_from_false (slice_index (decimal n) 0 == 48) (false_from_ne_true (slice_index (decimal n) 0 == 48) (λ h.
          let same : get_or (decimal n) 0 0 ≡ 48 = eqb-true (get_or (decimal n) 0 0) 48 h in
          let more : 48 < get_or (decimal n) 0 0 = first_decimal n (omega (arith, ne)) l in
          omega arith)))
    ]

pub decimal_numeral : (n : ℕ) → n < number_limit → is_numeral (decimal n) ≡ true
decimal_numeral n l =
    let low = low_enough n l in
    let some : 0 < length (decimal n) = decimal_nonempty n low.0 in
    and_from (nat_le 1 (length (decimal n))) (nat_le (length (decimal n)) 10 && (list_all is_ascii_digit (decimal n) && (length (decimal n) == 1 || not (slice_index (decimal n) 0 == 48))))
    (from_one (length (decimal n)) some)
    (and_from (nat_le (length (decimal n)) 10) (list_all is_ascii_digit (decimal n) && (length (decimal n) == 1 || not (slice_index (decimal n) 0 == 48)))
    (le_ten (length (decimal n)) (length-decimal-le 10 n (omega arith) low.1 low.0))
    (and_from (list_all is_ascii_digit (decimal n)) (length (decimal n) == 1 || not (slice_index (decimal n) 0 == 48)) (digits_decimal own n low.0) (no_zero_ahead n low.0)))
  where
    from_one : (k : ℕ) → 0 < k → nat_le 1 k ≡ true
    from_one k h = grind arith

    le_ten : (k : ℕ) → k ≤ 10 → nat_le k 10 ≡ true
    le_ten k h = grind arith

pub value_decimal : (n : ℕ) → n < number_limit → number (decimal n) ≡ n
value_decimal n l = digits_value-decimal own n (low_enough n l).0

pub numeral_decimal : (text : List ℕ) → is_numeral text ≡ true → number text < number_limit → text ≡ decimal (number text)
numeral_decimal text h l =
    let a : (nat_le 1 (length text) ≡ true) × ((nat_le (length text) 10 && (list_all is_ascii_digit text && (length text == 1 || not (slice_index text 0 == 48)))) ≡ true) =
    and_parts (nat_le 1 (length text)) (nat_le (length text) 10 && (list_all is_ascii_digit text && (length text == 1 || not (slice_index text 0 == 48)))) h in
    let b = and_parts (nat_le (length text) 10) (list_all is_ascii_digit text && (length text == 1 || not (slice_index text 0 == 48))) a.1 in
    let c : (list_all is_ascii_digit text ≡ true) × ((length text == 1 || not (slice_index text 0 == 48)) ≡ true) =
    and_parts (list_all is_ascii_digit text) (length text == 1 || not (slice_index text 0 == 48)) b.1 in
    let some : 0 < length text = filled (length text) a.0 in
    sym (decimal-digits_value own text c.0 some
    (λ zero_first. elim (or_cases (length text == 1) (not (slice_index text 0 == 48)) c.1) [
      | inl one ↦ eqb-true (length text) 1 one
      | inr other ↦ absurd (both_ways (slice_index text 0 == 48) (not-true (slice_index text 0 == 48) other) (eq-eqb (get_or text 0 0) 48 zero_first))
    ])
    (low_enough (number text) l).0)
  where
    filled : (k : ℕ) → nat_le 1 k ≡ true → 0 < k
    filled k h = grind arith
