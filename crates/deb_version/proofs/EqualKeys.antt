-- Versions that compare as equal have the same key.
use Rattle.std.proofs.Common.{◌≡◌, ℕ, zero, suc, ◌+◌, ◌-◌, ◌≤◌, Bool, true, false, cond, not, nat_lt, List, [], ◌∷◌, ◌++◌, length, drop, refl, sym, ap, ◌∙◌, ℤ}
use Rattle.std.proofs.{Common.{pos, negsuc, arith}, lemmas.Bool.{cond_both}, lemmas.Bool.Decides.{nat_tests}, lemmas.Cmp.{tied_itself, nat_cmp_total}}
use Rattle.std.proofs.{lemmas.List.Sums.{take_while-cons}, lemmas.Map.Lookups.{exact_signed, exact_unsigned, exact_bytes}}
use Rattle.std.specs.{Prelude.{◌==◌, if◌then◌else◌, unwrap_or}, declared.cmp.Ordering.{Ordering}, declared.cmp.Ordering.TheVariants.{Less, Equal, Greater}}
use Rattle.std.specs.{Char.{is_ascii_alphabetic, is_ascii_digit}, Cmp.Lexicographic.{slice_cmp}, List.{list_all, prefix_len, take_while}}
use Rattle.std.specs.Ordering.{ordering_then, nat_cmp, int_cmp}
use Rattle.deb_version.specs.Grammar.{epoch_of, upstream_of, is_version}
use Rattle.deb_version.specs.Keys.{without_zeros, zero_before, number_before, number_key, front_key, part_key, epoch_key, version_key}
use Rattle.deb_version.specs.Order.{number, is_plain, weight, weights, behind_plain, behind_digits, part_order, or_zero, epoch_number, full_revision}
use Rattle.deb_version.specs.Order.{version_order}
use Rattle.deb_version.proofs.{Cutting.{epoch_digits}, KeySteps.{part_key-step, part_key-empty}, Numbers.{order_by_runs}}
use Rattle.deb_version.proofs.PieceSteps.{behind_front, shorter-behind_front, length-behind_front, front_order, part_order-step, take_while-all}

pub then_parts : (o p : Ordering) → ordering_then o p ≡ Equal → (o ≡ Equal) × (p ≡ Equal)
then_parts Less p e = cc
then_parts Equal p e = (refl, e)
then_parts Greater p e = cc

-- the character of a weight
abbrev character : ℤ → ℕ
character (pos n) = if nat_lt n 256 then n else n - 256
character (negsuc n) = 126

letter_small : (c : ℕ) → is_ascii_alphabetic c ≡ true → nat_lt c 256 ≡ true
letter_small c h = grind (arith, nat_tests)

other_large : (c : ℕ) → nat_lt (256 + c) 256 ≡ false
other_large c = grind (arith, nat_tests)

character-weight : (c : ℕ) → character (weight c) ≡ c
character-weight c =
    let P : ℤ → Type 0 = λ w. character w ≡ c in
    cond_both (c == 126) (negsuc 0) (if is_ascii_alphabetic c then pos c else pos (256 + c)) P (λ is. grind (arith, nat_tests))
    (λ is. cond_both (is_ascii_alphabetic c) (pos c) (pos (256 + c)) P
    (λ letter. ap (λ b. if b then c else c - 256) (letter_small c letter))
    (λ other. let same : 256 + c - 256 ≡ c = omega arith in ap (λ b. if b then 256 + c else 256 + c - 256) (other_large c) ∙ same))

-- the characters of weights, but for the last
abbrev characters : List ℤ → List ℕ
characters [] = []
characters (w ∷ []) = []
characters (w ∷ v ∷ ws) = character w ∷ characters (v ∷ ws)

characters-weights : (xs : List ℕ) → characters (weights xs) ≡ xs
characters-weights [] = refl
characters-weights (x ∷ []) = ap (λ c. c ∷ []) (character-weight x)
characters-weights (x ∷ y ∷ ys) = let first = character-weight x in let rest = characters-weights (y ∷ ys) in cc

exact_weights : (xs ys : List ℤ) → slice_cmp int_cmp xs ys ≡ Equal → xs ≡ ys
exact_weights [] [] e = refl
exact_weights [] (y ∷ ys) e = cc
exact_weights (x ∷ xs) [] e = cc
exact_weights (x ∷ xs) (y ∷ ys) e =
    let parts = then_parts (int_cmp x y) (slice_cmp int_cmp xs ys) e in
    let first = exact_signed x y parts.0 in
    let rest = exact_weights xs ys parts.1 in
    cc

-- pieces without digits whose weights are alike
plain_alike : (xs ys : List ℕ) → slice_cmp int_cmp (weights xs) (weights ys) ≡ Equal → xs ≡ ys
plain_alike xs ys e = sym (characters-weights xs) ∙ ap characters (exact_weights (weights xs) (weights ys) e) ∙ characters-weights ys

-- runs of digits that write one number
runs_alike : (a b : List ℕ) → list_all is_ascii_digit a ≡ true → list_all is_ascii_digit b ≡ true → number a ≡ number b → without_zeros a ≡ without_zeros b
runs_alike a b d f e =
    let alike : nat_cmp (number a) (number b) ≡ Equal = ap (nat_cmp (number a)) (sym e) ∙ tied_itself nat_cmp_total (number a) in
    exact_bytes (without_zeros a) (without_zeros b)
    (then_parts (nat_cmp (length (without_zeros a)) (length (without_zeros b))) (slice_cmp nat_cmp (without_zeros a) (without_zeros b)) (order_by_runs a b d f ∙ alike)).1

-- nothing is left, or a character that fails the test comes first
abbrev pub stops : (ℕ → Bool) → List ℕ → Bool
stops p [] = true
stops p (c ∷ cs) = not (p c)

abbrev pub starts_plain : List ℕ → Bool
starts_plain rest = stops is_ascii_digit rest

pub behind_digits-plain : (xs : List ℕ) → starts_plain (behind_digits xs) ≡ true
behind_digits-plain [] = refl
behind_digits-plain (x ∷ xs) =
    elim (is_ascii_digit x) as (λ b. is_ascii_digit x ≡ b → starts_plain (drop (cond b (1 + prefix_len is_ascii_digit xs) 0) (x ∷ xs)) ≡ true) [
      | true ↦ λ is.
          let more : 1 + prefix_len is_ascii_digit xs ≡ suc (prefix_len is_ascii_digit xs) = omega arith in
          ap (λ k. starts_plain (drop k (x ∷ xs))) more ∙ behind_digits-plain xs
      | false ↦ λ is. ap not is
    ] refl

-- what is left of a part has a key with something in it, where something is left
zero_before-key : (rest : List ℕ) → starts_plain rest ≡ true → zero_before (part_key rest) ≡ zero_before rest
unfolding front_key
zero_before-key [] h = ap zero_before (part_key-empty [] refl)
zero_before-key (c ∷ cs) h =
    let first : take_while is_plain (c ∷ cs) ≡ c ∷ take_while is_plain cs = take_while-cons is_plain c cs ∙ ap (λ b. cond b (c ∷ take_while is_plain cs) []) h in
    ap zero_before (part_key-step (c ∷ cs) ∙ ap (λ plain. (plain ++ number_key (c ∷ cs)) ++ part_key (behind_front (c ∷ cs))) first)

number_before-alike : (d e more other : List ℕ) → d ≡ e → zero_before more ≡ zero_before other → number_before d more ≡ number_before e other
number_before-alike d e more other same follows = ap (λ digits. number_before digits more) same ∙ by e
  where
    by : (digits : List ℕ) → number_before digits more ≡ number_before digits other
    by [] = follows
    by (c ∷ digits) = refl

alike_step : (v w : List ℕ) → part_order v w ≡ Equal → (part_order (behind_front v) (behind_front w) ≡ Equal → part_key (behind_front v) ≡ part_key (behind_front w)) → part_key v ≡ part_key w
unfolding front_key
alike_step v w e rest =
    let fronts = then_parts (front_order v w) (part_order (behind_front v) (behind_front w)) (sym (part_order-step v w) ∙ e) in
    let pieces = then_parts _ _ fronts.0 in
    let plain : take_while is_plain v ≡ take_while is_plain w = plain_alike (take_while is_plain v) (take_while is_plain w) pieces.0 in
    let more : part_key (behind_front v) ≡ part_key (behind_front w) = rest fronts.1 in
    let follows : zero_before (behind_front v) ≡ zero_before (behind_front w)
    = sym (zero_before-key (behind_front v) (behind_digits-plain (behind_plain v))) ∙ ap zero_before more ∙ zero_before-key (behind_front w) (behind_digits-plain (behind_plain w)) in
    let digits : without_zeros (take_while is_ascii_digit (behind_plain v)) ≡ without_zeros (take_while is_ascii_digit (behind_plain w))
    = runs_alike (take_while is_ascii_digit (behind_plain v)) (take_while is_ascii_digit (behind_plain w)) (take_while-all is_ascii_digit (behind_plain v)) (take_while-all is_ascii_digit (behind_plain w)) (exact_unsigned _ _ pieces.1) in
    let numbers : number_key v ≡ number_key w = number_before-alike _ _ _ _ digits follows in
    part_key-step v ∙ ap (λ xs. (xs ++ number_key v) ++ part_key (behind_front v)) plain ∙ ap (λ xs. (take_while is_plain w ++ xs) ++ part_key (behind_front v)) numbers
    ∙ ap (λ xs. (take_while is_plain w ++ number_key w) ++ xs) more ∙ sym (part_key-step w)

fewer : (v w : List ℕ) (n : ℕ) → length v + length w ≤ suc n → length (behind_front v) + length (behind_front w) ≤ n
fewer [] [] n h = omega arith
fewer (x ∷ xs) w n h =
    let less = shorter-behind_front (x ∷ xs) (omega arith) in
    omega (arith, length-behind_front w)
fewer [] (y ∷ ys) n h = let less = shorter-behind_front (y ∷ ys) (omega arith) in omega arith

parts_alike : (n : ℕ) (v w : List ℕ) → length v + length w ≤ n → part_order v w ≡ Equal → part_key v ≡ part_key w
parts_alike zero v w h e = part_key-empty v (omega arith) ∙ sym (part_key-empty w (omega arith))
parts_alike (suc n) v w h e =
    alike_step v w e (parts_alike n (behind_front v) (behind_front w) (fewer v w n h))

pub equal_keys : (v w : List ℕ) → is_version v ≡ true → is_version w ≡ true → version_order v w ≡ Equal → version_key v ≡ version_key w
unfolding version_order version_key
equal_keys v w g h e =
    let epochs = then_parts (nat_cmp (epoch_number v) (epoch_number w)) _ e in
    let parts = then_parts (part_order (upstream_of v) (upstream_of w)) (part_order (full_revision v) (full_revision w)) epochs.1 in
    let epoch : epoch_key v ≡ epoch_key w
    = runs_alike (unwrap_or (epoch_of v) or_zero) (unwrap_or (epoch_of w) or_zero) (epoch_digits v _ (epoch_of v) g refl refl) (epoch_digits w _ (epoch_of w) h refl refl) (exact_unsigned _ _ epochs.0) in
    let upstream : part_key (upstream_of v) ≡ part_key (upstream_of w) = parts_alike (length (upstream_of v) + length (upstream_of w)) (upstream_of v) (upstream_of w) (omega arith) parts.0 in
    let revision : part_key (full_revision v) ≡ part_key (full_revision w) = parts_alike (length (full_revision v) + length (full_revision w)) (full_revision v) (full_revision w) (omega arith) parts.1 in
    cc
