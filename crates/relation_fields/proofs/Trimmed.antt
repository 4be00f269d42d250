-- White space in front of an element says nothing.
use Rattle.std.proofs.{Common.{◌≡◌, ℕ, ◌<◌, ◌==◌, true, false, List, [], ◌∷◌, ◌++◌, length, take, refl, sym, ap, ◌∙◌, arith}, lemmas.Bool.{and_parts, and_from}}
use Rattle.std.proofs.lemmas.List.Splits.{slice_split-cons_no, length-slice_split}
use Rattle.std.specs.List.{prefix_len, onto_first}
use Rattle.relation_fields.specs.{Texts.{is_white_byte, is_white, trim_start, pieces}, Grammar.{atom_of, each_of, alternatives_of}}
use Rattle.relation_fields.proofs.{Fronts.{front_passes, trim_start-white, trim_start-joined}, Bytes.{fails_at_space}}

atom_behind : (front text : List ℕ) → is_white front ≡ true → atom_of (front ++ text) ≡ atom_of text
unfolding atom_of
atom_behind front text white = rw (trim_start-white front text white) refl

-- a byte of white space is no bar
not_bar : (c : ℕ) → is_white_byte c ≡ true → (c == 124) ≡ false
not_bar = fails_at_space (λ x. x == 124) refl refl refl

-- a byte of white space in front of the first text says nothing
first_behind : (c : ℕ) → is_white_byte c ≡ true → (texts : List (List ℕ)) → 0 < length texts → each_of atom_of (onto_first c texts) ≡ each_of atom_of texts
first_behind c white [] filled = absurd (omega arith)
first_behind c white (text ∷ texts) filled = rw (atom_behind (c ∷ []) text (and_from (is_white_byte c) true white refl)) refl

one_behind : (c : ℕ) (text : List ℕ) → is_white_byte c ≡ true → alternatives_of (c ∷ text) ≡ alternatives_of text
unfolding alternatives_of
one_behind c text white = ap (each_of atom_of) (slice_split-cons_no (λ x. x == 124) c text (not_bar c white)) ∙ first_behind c white (pieces 124 text) (omega (arith, length-slice_split (λ x. x == 124) text))

all_behind : (front text : List ℕ) → is_white front ≡ true → alternatives_of (front ++ text) ≡ alternatives_of text
all_behind [] text white = refl
all_behind (c ∷ front) text white =
    let parts = and_parts (is_white_byte c) (is_white front) white in
    one_behind c (front ++ text) parts.0 ∙ all_behind front text parts.1

pub trimmed_read : (text : List ℕ) → alternatives_of (trim_start text) ≡ alternatives_of text
trimmed_read text =
    sym (all_behind (take (prefix_len is_white_byte text) text) (trim_start text) (front_passes is_white_byte text)) ∙ ap alternatives_of (sym (trim_start-joined text))
