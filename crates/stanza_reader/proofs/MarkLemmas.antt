-- The numbers and the marks of names.
use Rattle.std.proofs.Common.{◌≡◌, ℕ, ◌+◌, ◌-◌, ◌*◌, ◌/◌, ◌%◌, ◌^◌, ◌<◌, inl, inr, false, List, [], ◌∷◌, ◌++◌, length, get_or, All, ap, sym, ◌∙◌, arith}
use Rattle.std.proofs.{lemmas.Bool.{cases_eq, cases_lt, false_from_ne_true}, lemmas.List.{get_or-map, length-map}}
use Rattle.std.proofs.{lemmas.List.Elements.{All-map, All-push, All-weaker}, lemmas.List.Folds.{list_any_none}}
use Rattle.std.proofs.{lemmas.Nat.{and_or_apart, and_or_self, one_shl, or_block, pow_apart, pow_pos}, lemmas.Slice.Eq.{bytes_eq-Decides}}
use Rattle.std.proofs.lemmas.Str.Ascii.{lowercase_is}
use Rattle.std.specs.{Prelude.{◌≤◌, bit_and, bit_or}, Char.{to_ascii_lowercase}, Int.{w32, from_be_bytes}}
use Rattle.stanza_reader.specs.{Fields.{is_same_name, lowered}, Note.{IsKeyed, IsMarked, folded, key_of, mark_of, mark_place, names_in, number_of, short_key}}
use Rattle.stanza_reader.specs.{Stanzas.{has_name}, declared.note.KeyedName.{KeyedName}}

mark_some : (key : ℕ) → 0 < mark_of key
unfolding mark_of
mark_some key = pow_pos (mark_place key)

-- a bit of 64
pub mark_is : (key : ℕ) → (1 * 2 ^ mark_place key) % 2 ^ 64 ≡ mark_of key
unfolding mark_of
mark_is key = one_shl (mark_place key) 64 (omega arith)

-- a mark that is up stays up
stays_up : (marks key other : ℕ) → bit_and marks (mark_of other) ≡ mark_of other → bit_and (bit_or marks (mark_of key)) (mark_of other) ≡ mark_of other
unfolding mark_of
stays_up marks key other up =
    elim (cases_eq (mark_place key) (mark_place other)) [
      | inl same ↦ rw same (and_or_self (2 ^ mark_place other) marks)
      | inr apart ↦ and_or_apart (2 ^ mark_place other) marks (2 ^ mark_place key) (pow_apart _ _ apart) ∙ up
    ]

-- one more name, whose mark goes up
pub marks_more : (few : List KeyedName) (marks : ℕ) (one : KeyedName) → All (IsMarked marks) few → All (IsMarked (bit_or marks (mark_of one.key))) (few ++ one ∷ [])
marks_more few marks one up =
    All-push (IsMarked (bit_or marks (mark_of one.key))) few one
    (All-weaker (IsMarked marks) (IsMarked (bit_or marks (mark_of one.key))) (λ other h. stays_up marks one.key other.key h) few up)
    (and_or_self (mark_of one.key) marks)

-- a name whose mark is down is another one
other_name : (one : KeyedName) (marks key : ℕ) (name : List ℕ) → IsKeyed one → IsMarked marks one → key ≡ key_of name → bit_and marks (mark_of key) ≡ 0 → is_same_name one.name.now name ≡ false
other_name one marks key name keyed marked is down =
    false_from_ne_true _ (λ same.
    let text : lowered one.name.now ≡ lowered name = (bytes_eq-Decides (lowered one.name.now) (lowered name)).0 same in
    let number : one.key ≡ key = keyed ∙ ap number_of text ∙ sym is in
    let none : mark_of key ≡ 0 = rw number at (sym marked) ∙ down in
    absurd (omega (arith, none, mark_some key)))

-- and is none of the names
pub mark_down : (few : List KeyedName) (marks key : ℕ) (name : List ℕ) → All IsKeyed few → All (IsMarked marks) few → key ≡ key_of name → bit_and marks (mark_of key) ≡ 0
    → has_name (names_in few) name ≡ false
mark_down few marks key name keys up is down =
    list_any_none (λ other. is_same_name other name) (names_in few)
    (All-map (λ other. is_same_name other name ≡ false) (λ one. one.name.now) few (λ k d l. other_name (get_or few k d) marks key name (keys k d l) (up k d l) is down))

-- a letter has one number in both cases
folded_lower : (b : ℕ) → folded (to_ascii_lowercase b) ≡ folded b
folded_lower b =
    elim (cases_lt b 65) [
      | inl low ↦ ap folded ((lowercase_is b).1 low)
      | inr from ↦ elim (cases_lt 90 b) [
        | inl high ↦ ap folded ((lowercase_is b).2 high)
        | inr to ↦ letter from to
      ]
    ]
  where
    letter : 65 ≤ b → b ≤ 90 → folded (to_ascii_lowercase b) ≡ folded b
    letter from to =
        let small : b ≡ 2 * 2 ^ 5 + (b - 64) = omega arith in
        let large : to_ascii_lowercase b ≡ 3 * 2 ^ 5 + (b - 64) = (lowercase_is b).0 (from, to) ∙ omega arith in
        ap folded large ∙ or_block 5 3 1 (b - 64) 0 (omega arith) (omega arith) ∙ sym (or_block 5 2 1 (b - 64) 0 (omega arith) (omega arith)) ∙ ap folded (sym small)

-- the number of a short name is that of the name in lower case
pub short_is : (name : List ℕ) → 0 < length name → from_be_bytes w32 (folded (get_or name 0 0) ∷ folded (get_or name (length name / 2) 0) ∷ folded (get_or name (length name - 1) 0) ∷ length name ∷ []) ≡ short_key (lowered name)
unfolding short_key
short_is name some =
    let size : length (lowered name) ≡ length name = length-map name to_ascii_lowercase in
    let first = at 0 some in
    let middle = at (length name / 2) (omega arith) in
    let last = at (length name - 1) (omega arith) in
    cc
  where
    at : (k : ℕ) → k < length name → folded (get_or (lowered name) k 0) ≡ folded (get_or name k 0)
    at k l = ap folded (get_or-map to_ascii_lowercase name k 0 0 l) ∙ folded_lower (get_or name k 0)
