-- The names of the packages of a sample suite.
use Rattle.std.proofs.Common.{◌≡◌, ◌∙◌, ◌<◌, ◌≤◌, ◌^◌, ℕ, Bool, true, false, not, nat_le, refl, ap, List, [], ◌∷◌, ◌++◌}
use Rattle.std.proofs.{lemmas.Bool.{and_from, false_from_ne_true, le-leb, not_from_false}, lemmas.Fmt.{decimal_injective, decimal_is_IsNumeral}}
use Rattle.std.proofs.{lemmas.List.Folds.{list_all-append}, lemmas.Slice.Eq.{bytes_eq-Decides}, lemmas.Str.Parse.{digit_from_value}}
use Rattle.std.specs.{Fmt.{decimal}, List.{list_all}, Str.{bytes_eq}, Str.Parse.{AllDigits}}
use Rattle.deb_version.specs.Names.{is_name, is_name_byte}
use Rattle.sample_suite.specs.SampleText.{package_name}

-- numbers of packages are small enough to be read back
abbrev pub IsSmall : ℕ → Type 0
IsSmall n = n < 2 ^ 64

-- no byte of the text passes the test
abbrev pub is_free : (ℕ → Bool) → List ℕ → Bool
is_free p text = list_all (λ c. not (p c)) text

pub free_both : (p : ℕ → Bool) (xs ys : List ℕ) → is_free p xs ≡ true → is_free p ys ≡ true → is_free p (xs ++ ys) ≡ true
free_both p xs ys a b = list_all-append (λ c. not (p c)) xs ys ∙ and_from (is_free p xs) (is_free p ys) a b

-- the test fails on every digit
abbrev pub FailsOnDigits : (ℕ → Bool) → Type 0
FailsOnDigits p = (c : ℕ) → 48 ≤ c → c ≤ 57 → p c ≡ false

digits_free : (p : ℕ → Bool) → FailsOnDigits p → (ds : List ℕ) → AllDigits 10 ds → is_free p ds ≡ true
digits_free p fails [] h = refl
digits_free p fails (c ∷ cs) h =
    let range = digit_from_value c h.0 in
    and_from (not (p c)) (is_free p cs) (not_from_false (p c) (fails c range.0 range.1)) (digits_free p fails cs h.1)

-- a name is free of what is neither its first letter nor a digit
pub name_free : (p : ℕ → Bool) → p 112 ≡ false → FailsOnDigits p → (n : ℕ) → IsSmall n → is_free p (package_name n) ≡ true
name_free p first fails n small =
    and_from (not (p 112)) (is_free p (decimal n)) (not_from_false (p 112) first) (digits_free p fails (decimal n) (decimal_is_IsNumeral n small).0.1)

digits_named : (ds : List ℕ) → AllDigits 10 ds → list_all is_name_byte ds ≡ true
digits_named [] h = refl
digits_named (c ∷ cs) h =
    let range = digit_from_value c h.0 in
    let low : nat_le 48 c ≡ true = le-leb 48 c range.0 in
    let high : nat_le c 57 ≡ true = le-leb c 57 range.1 in
    and_from (is_name_byte c) (list_all is_name_byte cs) (rw (low, high) refl) (digits_named cs h.1)

-- it is a name in the grammar
pub name_named : (n : ℕ) → IsSmall n → is_name (package_name n) ≡ true
name_named n small = digits_named (decimal n) (decimal_is_IsNumeral n small).0.1

behind_first : List ℕ → List ℕ
behind_first [] = []
behind_first (c ∷ cs) = cs

-- two numbers have two names
pub names_differ : (m n : ℕ) → IsSmall m → IsSmall n → (m ≡ n → ⊥) → bytes_eq (package_name m) (package_name n) ≡ false
unfolding behind_first
names_differ m n a b other =
    false_from_ne_true (bytes_eq (package_name m) (package_name n)) (λ e.
    let same : package_name m ≡ package_name n = (bytes_eq-Decides (package_name m) (package_name n)).0 e in
    other (decimal_injective m n a b (ap behind_first same)))
