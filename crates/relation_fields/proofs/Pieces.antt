-- Cutting a text into pieces, one piece at a time.
use Rattle.std.proofs.Common.{◌≡◌, ℕ, ◌+◌, ◌<◌, ◌≤◌, ◌==◌, nat_lt, Bool, false, Some, None, List, [], ◌∷◌, length, take, drop, refl, arith}
use Rattle.std.proofs.{lemmas.Grind.{common_steps}, lemmas.List.Quantifiers.{position-Some}, lemmas.List.Sums.{position_or_len_is, count_by-le-length}}
use Rattle.std.proofs.lemmas.List.Splits.{slice_split_first, length-slice_split}
use Rattle.std.specs.List.{position, position_or_len, slice_split}
use Rattle.relation_fields.specs.Texts.{pieces}

-- where the byte stands, the first piece ends before it, and the others are those of what stands behind it
pub pieces-found : (c : ℕ) (text : List ℕ) (n : ℕ) → position (λ x. x == c) text ≡ Some n → pieces c text ≡ take n text ∷ pieces c (drop (n + 1) text)
pieces-found c text n found =
    let at = position-Some (λ x. x == c) text n 0 found in
    let first : position_or_len (λ x. x == c) text ≡ n = position_or_len_is (λ x. x == c) text n 0 (omega arith) (at.2) (λ _. at.1) in
    let within : position_or_len (λ x. x == c) text < length text = omega arith in
    grind (arith, common_steps, slice_split_first (λ x. x == c) text 0 within)

whole : (p : ℕ → Bool) (text : List ℕ) → nat_lt (position_or_len p text) (length text) ≡ false → slice_split p text ≡ text ∷ []
whole p [] none = refl
whole p (x ∷ text) none = grind (arith, common_steps, whole p text)

-- where it does not stand, the text is the one piece
pub pieces-none : (c : ℕ) (text : List ℕ) → position (λ x. x == c) text ≡ None → pieces c text ≡ text ∷ []
pieces-none c text none = grind (arith, common_steps, whole (λ x. x == c) text)

-- there is at most one piece more than bytes
pub length-pieces : (c : ℕ) (text : List ℕ) → length (pieces c text) ≤ length text + 1
length-pieces c text = omega (arith, length-slice_split (λ x. x == c) text, count_by-le-length (λ x. x == c) text)
