-- Which bytes may stand where.
use Rattle.std.proofs.Common.{◌≡◌, ℕ, ◌+◌, ◌-◌, ◌==◌, Bool, true, false, not, ◌&&◌, ◌||◌, inl, inr, List, [], ◌∷◌, ◌++◌, Some, None, length, take, drop}
use Rattle.std.proofs.{Common.{reverse, get_or, refl, sym, ap, ◌∙◌, arith}, lemmas.Grind.{common_steps}}
use Rattle.std.proofs.lemmas.Bool.{and_parts, and_from, or_cases, or_left, eqb-true, cases_Bool, cases_lt, both_ways, cond-true, cond-false}
use Rattle.std.proofs.{lemmas.List.{take_all}, lemmas.List.Sums.{split_at_first, passes_at_first}, lemmas.List.Folds.{list_all-append}}
use Rattle.std.specs.{List.{list_all, list_any, before_first, after_first, before_last, after_last, position_or_len}, Char.{is_ascii_digit}}
use Rattle.std.specs.Option.{option_map_or}
use Rattle.listed.proofs.Lists.{all_weaker}
use Rattle.deb_version.specs.Names.{is_name_byte}
use Rattle.deb_version.specs.Grammar.{is_colon, is_hyphen, epoch_of, behind_epoch, upstream_in, revision_in, upstream_of, revision_of, is_filled, is_epoch}
use Rattle.deb_version.specs.Grammar.{is_revision_byte, is_upstream_byte, is_upstream, is_revision, is_version}
use Rattle.relation_fields.specs.Texts.{is_white_byte, is_operator_byte}
use Rattle.relation_fields.proofs.Fronts.{stops, list_all-reverse, end_dropped, end_taken}

-- a test that fails at the three bytes of white space fails at white space, and so at the three of operators
pub fails_at_space : (q : ℕ → Bool) → q 32 ≡ false → q 9 ≡ false → q 10 ≡ false → (c : ℕ) → is_white_byte c ≡ true → q c ≡ false
fails_at_space q a b d c space =
    elim (or_cases (c == 32) (c == 9 || c == 10) space) [
      | inl e ↦ ap q (eqb-true c 32 e) ∙ a
      | inr e ↦ elim (or_cases (c == 9) (c == 10) e) [ inl e ↦ ap q (eqb-true c 9 e) ∙ b | inr e ↦ ap q (eqb-true c 10 e) ∙ d ]
    ]

pub fails_at_operator : (q : ℕ → Bool) → q 60 ≡ false → q 61 ≡ false → q 62 ≡ false → (c : ℕ) → is_operator_byte c ≡ true → q c ≡ false
fails_at_operator q a b d c operator =
    elim (or_cases (c == 60) (c == 61 || c == 62) operator) [
      | inl e ↦ ap q (eqb-true c 60 e) ∙ a
      | inr e ↦ elim (or_cases (c == 61) (c == 62) e) [ inl e ↦ ap q (eqb-true c 61 e) ∙ b | inr e ↦ ap q (eqb-true c 62 e) ∙ d ]
    ]

-- where one test passes the other fails
pub apart : (p q : ℕ → Bool) → ((c : ℕ) → p c ≡ true → q c ≡ false) → (c : ℕ) → q c ≡ true → p c ≡ false
apart p q h c passes = elim (cases_Bool (p c)) [ inl holds ↦ absurd (both_ways (q c) (h c holds) passes) | inr fails ↦ fails ]

pub name_no_space : (c : ℕ) → is_name_byte c ≡ true → is_white_byte c ≡ false
name_no_space = apart is_white_byte is_name_byte (fails_at_space is_name_byte refl refl refl)

pub version_no_space : (c : ℕ) → is_upstream_byte c ≡ true → is_white_byte c ≡ false
version_no_space = apart is_white_byte is_upstream_byte (fails_at_space is_upstream_byte refl refl refl)

pub version_no_operator : (c : ℕ) → is_upstream_byte c ≡ true → is_operator_byte c ≡ false
version_no_operator = apart is_operator_byte is_upstream_byte (fails_at_operator is_upstream_byte refl refl refl)

-- a text whose bytes all pass one test stops another that fails where the first passes
pub stops-from_all : (p r : ℕ → Bool) → ((c : ℕ) → r c ≡ true → p c ≡ false) → (xs : List ℕ) → list_all r xs ≡ true → stops p xs ≡ true
stops-from_all p r h [] all = refl
stops-from_all p r h (x ∷ xs) all = ap not (h x ((and_parts (r x) (list_all r xs) all).0))

pub stops-append : (p : ℕ → Bool) (xs ys : List ℕ) → stops p xs ≡ true → stops p ys ≡ true → stops p (xs ++ ys) ≡ true
stops-append p [] ys a b = b
stops-append p (x ∷ xs) ys a b = a

-- a text is filled by what stands before and behind a byte, and that byte
around_first : (p q : ℕ → Bool) → ((c : ℕ) → p c ≡ true → q c ≡ true) → (xs : List ℕ) → list_all q (before_first p xs) ≡ true → list_all q (after_first p xs) ≡ true → list_all q xs ≡ true
around_first p q h xs before after =
    elim (cases_lt (position_or_len p xs) (length xs)) [
      | inl within ↦
          let at = get_or xs (position_or_len p xs) 0 in
          ap (list_all q) (split_at_first p xs 0 within) ∙ list_all-append q (before_first p xs) (at ∷ after_first p xs)
          ∙ and_from (list_all q (before_first p xs)) (q at && list_all q (after_first p xs)) before (and_from (q at) (list_all q (after_first p xs)) (h at (passes_at_first p xs 0 within)) after)
      | inr past ↦ ap (list_all q) (sym (take_all (position_or_len p xs) xs past)) ∙ before
    ]

around_last : (p q : ℕ → Bool) → ((c : ℕ) → p c ≡ true → q c ≡ true) → (xs : List ℕ) → list_all q (before_last p xs) ≡ true → list_all q (after_last p xs) ≡ true → list_all q xs ≡ true
around_last p q h xs before after =
    let n = position_or_len p (reverse xs) in
    let first : list_all q (before_first p (reverse xs)) ≡ true = sym (list_all-reverse q (take n (reverse xs))) ∙ ap (list_all q) (sym (end_dropped xs n)) ∙ after in
    let one : length xs - n - 1 ≡ length xs - (n + 1) = omega arith in
    let last : list_all q (after_first p (reverse xs)) ≡ true =
    sym (list_all-reverse q (drop (n + 1) (reverse xs))) ∙ ap (list_all q) (sym (end_taken xs (n + 1))) ∙ ap (λ m. list_all q (take m xs)) (sym one) ∙ before in
    sym (list_all-reverse q xs) ∙ around_first p q h (reverse xs) first last

digit_is_version : (c : ℕ) → is_ascii_digit c ≡ true → is_upstream_byte c ≡ true
digit_is_version c digit = grind (arith, common_steps)

revision_is_version : (c : ℕ) → is_revision_byte c ≡ true → is_upstream_byte c ≡ true
revision_is_version c one = or_left (is_revision_byte c) (is_hyphen c || is_colon c) one

colon_is_version : (c : ℕ) → is_colon c ≡ true → is_upstream_byte c ≡ true
colon_is_version c colon = ap is_upstream_byte (eqb-true c 58 colon)

hyphen_is_version : (c : ℕ) → is_hyphen c ≡ true → is_upstream_byte c ≡ true
hyphen_is_version c hyphen = ap is_upstream_byte (eqb-true c 45 hyphen)

all_upstream : (text : List ℕ) → is_upstream text ≡ true → list_all is_upstream_byte text ≡ true
all_upstream text upstream = (and_parts (is_filled text) (list_all is_upstream_byte text) upstream).1

all_revision : (text : List ℕ) → is_revision text ≡ true → list_all is_upstream_byte text ≡ true
all_revision text revision = all_weaker is_revision_byte is_upstream_byte revision_is_version text ((and_parts (is_filled text) (list_all is_revision_byte text) revision).1)

all_epoch : (text : List ℕ) → is_epoch text ≡ true → list_all is_upstream_byte text ≡ true
all_epoch text epoch = all_weaker is_ascii_digit is_upstream_byte digit_is_version text ((and_parts (is_filled text) (list_all is_ascii_digit text) epoch).1)

behind_bytes : (rest : List ℕ) → is_upstream (upstream_in rest) ≡ true → option_map_or is_revision (revision_in rest) true ≡ true → list_all is_upstream_byte rest ≡ true
unfolding upstream_in revision_in
behind_bytes rest upstream revision =
    elim (cases_Bool (list_any is_hyphen rest)) [
      | inl holds ↦
          around_last is_hyphen is_upstream_byte hyphen_is_version rest
          (all_upstream (before_last is_hyphen rest) (ap is_upstream (sym (cond-true (list_any is_hyphen rest) (before_last is_hyphen rest) rest holds)) ∙ upstream))
          (all_revision (after_last is_hyphen rest) (ap (λ o. option_map_or is_revision o true) (sym (cond-true (list_any is_hyphen rest) (Some (after_last is_hyphen rest)) None holds)) ∙ revision))
      | inr fails ↦ all_upstream rest (ap is_upstream (sym (cond-false (list_any is_hyphen rest) (before_last is_hyphen rest) rest fails)) ∙ upstream)
    ]

-- each byte of a version is a letter, a digit or one of `+ . ~ - :`
pub version_bytes : (text : List ℕ) → is_version text ≡ true → list_all is_upstream_byte text ≡ true
unfolding is_version epoch_of behind_epoch
version_bytes text version =
    let epoch = option_map_or is_epoch (epoch_of text) true in
    let parts = and_parts (epoch && is_upstream (upstream_of text)) (option_map_or is_revision (revision_of text) true) version in
    let fronts = and_parts epoch (is_upstream (upstream_of text)) (parts.0) in
    let behind : list_all is_upstream_byte (behind_epoch text) ≡ true = behind_bytes (behind_epoch text) fronts.1 parts.1 in
    elim (cases_Bool (list_any is_colon text)) [
      | inl holds ↦
          around_first is_colon is_upstream_byte colon_is_version text
          (all_epoch (before_first is_colon text) (ap (λ o. option_map_or is_epoch o true) (sym (cond-true (list_any is_colon text) (Some (before_first is_colon text)) None holds)) ∙ fronts.0))
          (ap (list_all is_upstream_byte) (sym (cond-true (list_any is_colon text) (after_first is_colon text) text holds)) ∙ behind)
      | inr fails ↦ ap (list_all is_upstream_byte) (sym (cond-false (list_any is_colon text) (after_first is_colon text) text fails)) ∙ behind
    ]
