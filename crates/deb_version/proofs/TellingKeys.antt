-- Versions that have the same key compare as equal: a part and its key have the same pieces.
use Rattle.std.proofs.Common.{◌≡◌, ℕ, zero, suc, ◌+◌, ◌≤◌, Bool, true, false, cond, not, List, [], ◌∷◌, ◌++◌, length, take, drop, refl, sym, ap, ◌∙◌}
use Rattle.std.proofs.{Common.{append_assoc, arith}, lemmas.Bool.{and_parts, and_from, false≢true, not-true}, lemmas.Bool.Decides.{nat_tests}}
use Rattle.std.proofs.{lemmas.Cmp.{tied_itself, tied_back, nat_cmp_total, int_cmp_total, lists_total}, lemmas.List.Folds.{list_all-append}}
use Rattle.std.proofs.lemmas.List.Sums.{take_while-cons}
use Rattle.std.specs.{Prelude.{◌==◌, unwrap_or, Option, Some, None}, declared.cmp.Ordering.TheVariants.{Equal}, Char.{is_ascii_digit}}
use Rattle.std.specs.{Cmp.Lexicographic.{slice_cmp}, List.{list_all, prefix_len, take_while}, Ordering.{ordering_then, nat_cmp, int_cmp}}
use Rattle.listed.proofs.Lists.{all_weaker}
use Rattle.deb_version.specs.Grammar.{epoch_of, upstream_of, revision_of, is_upstream_byte, is_revision_byte, are_parts, is_version}
use Rattle.deb_version.specs.Keys.{without_zeros, number_before, number_key, front_key, fronts_key, part_key, epoch_key, version_key}
use Rattle.deb_version.specs.Order.{number, is_plain, weights, behind_plain, behind_digits, part_order, or_zero, epoch_number, full_revision, version_order}
use Rattle.deb_version.proofs.{Cutting.{epoch_digits}, EqualKeys.{stops, starts_plain, behind_digits-plain}, KeySteps.{part_key-step, part_key-empty}}
use Rattle.deb_version.proofs.Numbers.{number-without_zeros, list_all-drop}
use Rattle.deb_version.proofs.{PieceSteps.{behind_front, shorter-behind_front, part_order-step, part_order-empty, take_while-all}, TotalOrder.{part_total}}

-- the longest front of characters that pass is found again where it is followed by one that fails
module _ (p : ℕ → Bool) where
  take_front : (xs ys : List ℕ) → list_all p xs ≡ true → stops p ys ≡ true → take_while p (xs ++ ys) ≡ xs
  take_front [] [] h s = refl
  take_front [] (y ∷ ys) h s = take_while-cons p y ys ∙ ap (λ b. cond b (y ∷ take_while p ys) []) (not-true (p y) s)
  take_front (x ∷ xs) ys h s =
      let both = and_parts _ _ h in
      take_while-cons p x (xs ++ ys) ∙ ap (λ b. cond b (x ∷ take_while p (xs ++ ys)) []) both.0 ∙ ap (λ rest. x ∷ rest) (take_front xs ys both.1 s)

  drop_front : (xs ys : List ℕ) → list_all p xs ≡ true → stops p ys ≡ true → drop (prefix_len p (xs ++ ys)) (xs ++ ys) ≡ ys
  drop_front [] [] h s = refl
  drop_front [] (y ∷ ys) h s = ap (λ b. drop (cond b (1 + prefix_len p ys) 0) (y ∷ ys)) (not-true (p y) s)
  drop_front (x ∷ xs) ys h s =
      let more : 1 + prefix_len p (xs ++ ys) ≡ suc (prefix_len p (xs ++ ys)) = omega arith in
      let both = and_parts _ _ h in
      ap (λ b. drop (cond b (1 + prefix_len p (xs ++ ys)) 0) (x ∷ (xs ++ ys))) both.0 ∙ ap (λ n. drop n (x ∷ (xs ++ ys))) more ∙ drop_front xs ys both.1 s

  all_take : (n : ℕ) (xs : List ℕ) → list_all p xs ≡ true → list_all p (take n xs) ≡ true
  all_take zero xs h = refl
  all_take (suc n) [] h = refl
  all_take (suc n) (x ∷ xs) h = let both = and_parts _ _ h in and_from _ _ both.0 (all_take n xs both.1)

-- a number in a key: its digits, its value, and that it is cut off again
number_digits : (digits more : List ℕ) → list_all is_ascii_digit digits ≡ true → list_all is_ascii_digit (number_before digits more) ≡ true
number_digits [] [] h = refl
number_digits [] (c ∷ more) h = refl
number_digits (d ∷ digits) more h = h

number_value : (digits more : List ℕ) → number (number_before digits more) ≡ number digits
number_value [] [] = refl
number_value [] (c ∷ more) = refl
number_value (d ∷ digits) more = refl

number_stops : (digits more : List ℕ) → list_all is_ascii_digit digits ≡ true → stops is_plain (number_before digits more ++ part_key more) ≡ true
number_stops [] [] h = ap (stops is_plain) (part_key-empty [] refl)
number_stops [] (c ∷ more) h = refl
number_stops (d ∷ digits) more h = ap (λ b. not (not b)) (and_parts _ _ h).0

-- a key starts as its part does
key_starts : (part : List ℕ) → starts_plain part ≡ true → starts_plain (part_key part) ≡ true
unfolding front_key
key_starts [] h = ap starts_plain (part_key-empty [] refl)
key_starts (c ∷ cs) h =
    let first : take_while is_plain (c ∷ cs) ≡ c ∷ take_while is_plain cs = take_while-cons is_plain c cs ∙ ap (λ b. cond b (c ∷ take_while is_plain cs) []) h in
    ap starts_plain (part_key-step (c ∷ cs) ∙ ap (λ plain. (plain ++ number_key (c ∷ cs)) ++ part_key (behind_front (c ∷ cs))) first) ∙ h

abbrev plain_of : List ℕ → List ℕ
plain_of part = take_while is_plain part

abbrev digits_of : List ℕ → List ℕ
digits_of part = take_while is_ascii_digit (behind_plain part)

-- the first pieces of a part and of its key are alike, and what is left of the key is the key of what is left
same_step : (v : List ℕ) → part_order (behind_front v) (part_key (behind_front v)) ≡ Equal → part_order v (part_key v) ≡ Equal
unfolding front_key
same_step v rest =
    let more : List ℕ = part_key (behind_front v) in
    let written : List ℕ = number_key v in
    let digits : list_all is_ascii_digit (without_zeros (digits_of v)) ≡ true = list_all-drop is_ascii_digit _ (digits_of v) (take_while-all is_ascii_digit (behind_plain v)) in
    let key : part_key v ≡ plain_of v ++ (written ++ more) = part_key-step v ∙ append_assoc (plain_of v) written more in
    let plain_all : list_all is_plain (plain_of v) ≡ true = take_while-all is_plain v in
    let plain_end : stops is_plain (written ++ more) ≡ true = number_stops (without_zeros (digits_of v)) (behind_front v) digits in
    let digits_all : list_all is_ascii_digit written ≡ true = number_digits (without_zeros (digits_of v)) (behind_front v) digits in
    let digits_end : stops is_ascii_digit more ≡ true = key_starts (behind_front v) (behind_digits-plain (behind_plain v)) in
    let plain : plain_of (part_key v) ≡ plain_of v = ap plain_of key ∙ take_front is_plain (plain_of v) (written ++ more) plain_all plain_end in
    let behind : behind_plain (part_key v) ≡ written ++ more = ap behind_plain key ∙ drop_front is_plain (plain_of v) (written ++ more) plain_all plain_end in
    let number_same : number (digits_of (part_key v)) ≡ number (digits_of v)
    = ap (λ xs. number (take_while is_ascii_digit xs)) behind ∙ ap number (take_front is_ascii_digit written more digits_all digits_end)
    ∙ number_value (without_zeros (digits_of v)) (behind_front v) ∙ number-without_zeros (digits_of v) in
    let left : behind_front (part_key v) ≡ more = ap behind_digits behind ∙ drop_front is_ascii_digit written more digits_all digits_end in
    let weights_tied : slice_cmp int_cmp (weights (plain_of v)) (weights (plain_of (part_key v))) ≡ Equal
    = ap (λ xs. slice_cmp int_cmp (weights (plain_of v)) (weights xs)) plain ∙ tied_itself (lists_total int_cmp_total) (weights (plain_of v)) in
    let numbers_tied : nat_cmp (number (digits_of v)) (number (digits_of (part_key v))) ≡ Equal
    = ap (nat_cmp (number (digits_of v))) number_same ∙ tied_itself nat_cmp_total (number (digits_of v)) in
    part_order-step v (part_key v)
    ∙ ap (λ o. ordering_then (ordering_then o (nat_cmp (number (digits_of v)) (number (digits_of (part_key v))))) (part_order (behind_front v) (behind_front (part_key v)))) weights_tied
    ∙ ap (λ o. ordering_then o (part_order (behind_front v) (behind_front (part_key v)))) numbers_tied
    ∙ ap (part_order (behind_front v)) left ∙ rest

same_pieces : (n : ℕ) (v : List ℕ) → length v ≤ n → part_order v (part_key v) ≡ Equal
same_pieces n [] h = sym (part_order-empty [] (part_key []) refl (ap length (part_key-empty [] refl)))
same_pieces zero (x ∷ xs) h = absurd (omega arith)
same_pieces (suc n) (x ∷ xs) h =
    let less = shorter-behind_front (x ∷ xs) (omega arith) in
    same_step (x ∷ xs) (same_pieces n (behind_front (x ∷ xs)) (omega arith))

parts_told : (v w : List ℕ) → part_key v ≡ part_key w → part_order v w ≡ Equal
parts_told v w e =
    part_total.congr v (part_key v) w (same_pieces (length v) v (omega arith)) ∙ ap (λ key. part_order key w) e
    ∙ tied_back part_total w (part_key w) (same_pieces (length w) w (omega arith))

-- a space stands in no part
abbrev pub no_space : ℕ → Bool
no_space c = not (c == 32)

digit_no_space : (c : ℕ) → is_ascii_digit c ≡ true → no_space c ≡ true
digit_no_space c h = grind (arith, nat_tests)

upstream_no_space : (c : ℕ) → is_upstream_byte c ≡ true → no_space c ≡ true
upstream_no_space c h = grind (arith, nat_tests)

number_no_space : (digits more : List ℕ) → list_all no_space digits ≡ true → list_all no_space (number_before digits more) ≡ true
number_no_space [] [] h = refl
number_no_space [] (c ∷ more) h = refl
number_no_space (d ∷ digits) more h = h

fronts_no_space : (n : ℕ) (part : List ℕ) → list_all no_space part ≡ true → list_all no_space (fronts_key n part) ≡ true
unfolding fronts_key front_key
fronts_no_space zero part h = refl
fronts_no_space (suc n) part h =
    let behind = list_all-drop no_space (prefix_len is_plain part) part h in
    let left = list_all-drop no_space (prefix_len is_ascii_digit (behind_plain part)) (behind_plain part) behind in
    let plain = all_take no_space (prefix_len is_plain part) part h in
    let digits = list_all-drop no_space _ (digits_of part) (all_take no_space (prefix_len is_ascii_digit (behind_plain part)) (behind_plain part) behind) in
    let written = number_no_space (without_zeros (digits_of part)) (behind_front part) digits in
    list_all-append no_space (front_key part) (fronts_key n (behind_front part))
    ∙ and_from _ _ (list_all-append no_space (plain_of part) (number_key part) ∙ and_from _ _ plain written) (fronts_no_space n (behind_front part) left)

-- two texts are cut alike at their first spaces
pub cut_alike : (xs ys us vs : List ℕ) → list_all no_space xs ≡ true → list_all no_space us ≡ true → xs ++ (32 ∷ ys) ≡ us ++ (32 ∷ vs) → (xs ≡ us) × (ys ≡ vs)
cut_alike [] ys [] vs g h e = (refl, cc)
cut_alike [] ys (u ∷ us) vs g h e =
    let same : u ≡ 32 = cc in
    absurd (false≢true (ap no_space (sym same) ∙ (and_parts _ _ h).0))
cut_alike (x ∷ xs) ys [] vs g h e =
    let same : x ≡ 32 = cc in
    absurd (false≢true (ap no_space (sym same) ∙ (and_parts _ _ g).0))
cut_alike (x ∷ xs) ys (u ∷ us) vs g h e =
    let first : x ≡ u = cc in
    let rest = cut_alike xs ys us vs (and_parts _ _ g).1 (and_parts _ _ h).1 cc in
    (ap (λ c. c ∷ xs) first ∙ ap (λ cs. u ∷ cs) rest.0, rest.1)

epoch_no_space : (v : List ℕ) → is_version v ≡ true → list_all no_space (epoch_key v) ≡ true
epoch_no_space v h = all_weaker is_ascii_digit no_space digit_no_space (epoch_key v)
    (list_all-drop is_ascii_digit (prefix_len (λ c. c == 48) (unwrap_or (epoch_of v) or_zero)) (unwrap_or (epoch_of v) or_zero) (epoch_digits v _ (epoch_of v) h refl refl))

parts_upstream : (epoch : Option (List ℕ)) (upstream : List ℕ) (revision : Option (List ℕ)) → are_parts epoch upstream revision ≡ true → list_all is_upstream_byte upstream ≡ true
parts_upstream epoch upstream revision h = (and_parts _ _ (and_parts _ _ (and_parts _ _ h).0).1).1

upstream_key_no_space : (v : List ℕ) → is_version v ≡ true → list_all no_space (part_key (upstream_of v)) ≡ true
unfolding is_version part_key
upstream_key_no_space v h =
    fronts_no_space (length (upstream_of v)) (upstream_of v)
    (all_weaker is_upstream_byte no_space upstream_no_space (upstream_of v) (parts_upstream (epoch_of v) (upstream_of v) (revision_of v) h))

epochs_told : (v w : List ℕ) → epoch_key v ≡ epoch_key w → nat_cmp (epoch_number v) (epoch_number w) ≡ Equal
epochs_told v w e =
    let same : epoch_number v ≡ epoch_number w
    = sym (number-without_zeros (unwrap_or (epoch_of v) or_zero)) ∙ ap number e ∙ number-without_zeros (unwrap_or (epoch_of w) or_zero) in
    ap (nat_cmp (epoch_number v)) (sym same) ∙ tied_itself nat_cmp_total (epoch_number v)

pub keys_tell : (v w : List ℕ) → is_version v ≡ true → is_version w ≡ true → version_key v ≡ version_key w → version_order v w ≡ Equal
unfolding version_order version_key
keys_tell v w g h e =
    let parts = cut_alike (epoch_key v) (part_key (upstream_of v) ++ (32 ∷ part_key (full_revision v))) (epoch_key w) (part_key (upstream_of w) ++ (32 ∷ part_key (full_revision w)))
    (epoch_no_space v g) (epoch_no_space w h)
    (sym (append_assoc (epoch_key v) (32 ∷ part_key (upstream_of v)) (32 ∷ part_key (full_revision v))) ∙ e ∙ append_assoc (epoch_key w) (32 ∷ part_key (upstream_of w)) (32 ∷ part_key (full_revision w))) in
    let behind = cut_alike (part_key (upstream_of v)) (part_key (full_revision v)) (part_key (upstream_of w)) (part_key (full_revision w)) (upstream_key_no_space v g) (upstream_key_no_space w h) parts.1 in
    ap (λ o. ordering_then o (ordering_then (part_order (upstream_of v) (upstream_of w)) (part_order (full_revision v) (full_revision w)))) (epochs_told v w parts.0)
    ∙ ap (λ o. ordering_then o (part_order (full_revision v) (full_revision w))) (parts_told (upstream_of v) (upstream_of w) behind.0)
    ∙ parts_told (full_revision v) (full_revision w) behind.1

revision_no_space : (c : ℕ) → is_revision_byte c ≡ true → no_space c ≡ true
revision_no_space c h = grind (arith, nat_tests)

parts_revision : (epoch : Option (List ℕ)) (upstream : List ℕ) (revision : Option (List ℕ)) → are_parts epoch upstream revision ≡ true → list_all is_revision_byte (unwrap_or revision or_zero) ≡ true
parts_revision epoch upstream None h = refl
parts_revision epoch upstream (Some text) h = (and_parts _ _ (and_parts _ _ h).1).1

revision_key_no_space : (v : List ℕ) → is_version v ≡ true → list_all no_space (part_key (full_revision v)) ≡ true
unfolding is_version part_key
revision_key_no_space v h =
    fronts_no_space (length (full_revision v)) (full_revision v)
    (all_weaker is_revision_byte no_space revision_no_space (full_revision v) (parts_revision (epoch_of v) (upstream_of v) (revision_of v) h))

spread : (es us rs xs : List ℕ) → es ++ (32 ∷ us) ++ (32 ∷ rs) ++ (32 ∷ xs) ≡ es ++ (32 ∷ (us ++ (32 ∷ (rs ++ (32 ∷ xs)))))
spread es us rs xs = append_assoc (es ++ (32 ∷ us)) (32 ∷ rs) (32 ∷ xs) ∙ append_assoc es (32 ∷ us) (32 ∷ (rs ++ (32 ∷ xs)))

-- behind a key and a space any text may stand, and both are told
pub keys_before : (v w xs ys : List ℕ) → is_version v ≡ true → is_version w ≡ true → version_key v ++ (32 ∷ xs) ≡ version_key w ++ (32 ∷ ys) → (version_key v ≡ version_key w) × (xs ≡ ys)
unfolding version_key
keys_before v w xs ys g h e =
    let revision = part_key (full_revision v) ++ (32 ∷ xs) in
    let other = part_key (full_revision w) ++ (32 ∷ ys) in
    let first = cut_alike (epoch_key v) (part_key (upstream_of v) ++ (32 ∷ revision)) (epoch_key w) (part_key (upstream_of w) ++ (32 ∷ other)) (epoch_no_space v g) (epoch_no_space w h)
    (sym (spread (epoch_key v) (part_key (upstream_of v)) (part_key (full_revision v)) xs) ∙ e ∙ spread (epoch_key w) (part_key (upstream_of w)) (part_key (full_revision w)) ys) in
    let second = cut_alike (part_key (upstream_of v)) revision (part_key (upstream_of w)) other (upstream_key_no_space v g) (upstream_key_no_space w h) first.1 in
    let third = cut_alike (part_key (full_revision v)) xs (part_key (full_revision w)) ys (revision_key_no_space v g) (revision_key_no_space w h) second.1 in
    let epoch : epoch_key v ≡ epoch_key w = first.0 in
    let upstream : part_key (upstream_of v) ≡ part_key (upstream_of w) = second.0 in
    let last : part_key (full_revision v) ≡ part_key (full_revision w) = third.0 in
    (cc, third.1)
