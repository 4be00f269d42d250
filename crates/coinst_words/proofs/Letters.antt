-- A word of UTF-8 spells its letters.
use Rattle.std.proofs.Common.{◌≡◌, ◌∙◌, ◌==◌, ℕ, Bool, cond, true, false, refl, sym, ap, subst, List, [], ◌∷◌, length, Some, None, arith, suc, map}
use Rattle.std.proofs.{lemmas.Bool.{eqb-true}, lemmas.Str.{IsCharBoundary-after_ascii, IsUtf8-drop, IsUtf8-string_bytes, encodes-chars}}
use Rattle.std.specs.{Prelude.{option_and_then, slice_get}, Str.{IsUtf8, chars}, String.{string_bytes}, declared.string.String.{String}}
use Rattle.clap.specs.Lexer.{short_of_rest}
use lib.Utf8.{encodes}
use Rattle.coinst_words.proofs.{Walks.{Spells}, Reading.{AllSpell}}

spelled : (letters : List ℕ) → IsUtf8 letters → (x : ℕ) (xs : List ℕ) → letters ≡ x ∷ xs → (k : ℕ) × (c : ℕ) × (length letters ≡ suc k) × (slice_get (chars letters) 0 ≡ Some c)
spelled letters utf8 x xs is = go (chars letters) refl
  where
    go : (cs : List ℕ) → chars letters ≡ cs → (k : ℕ) × (c : ℕ) × (length letters ≡ suc k) × (slice_get (chars letters) 0 ≡ Some c)
    go [] e = let bad : [] ≡ x ∷ xs = sym (ap encodes e) ∙ encodes-chars letters utf8 ∙ is in cc
    go (c ∷ cs) e = (length xs, c, ap length is, ap (λ ys. slice_get ys 0) e)

pub spells : (word : List ℕ) → IsUtf8 word → Spells word
spells [] utf8 letters e = cc
spells (b ∷ bs) utf8 letters e = go (b == 45) refl e
  where
    go : (t : Bool) → (b == 45) ≡ t → option_and_then short_of_rest (cond t (Some bs) None) ≡ Some letters → (k : ℕ) × (c : ℕ) × (length letters ≡ suc k) × (slice_get (chars letters) 0 ≡ Some c)
    go false d h = cc
    go true d h = rest bs refl h
      where
        rest : (ys : List ℕ) → bs ≡ ys → short_of_rest ys ≡ Some letters → (k : ℕ) × (c : ℕ) × (length letters ≡ suc k) × (slice_get (chars letters) 0 ≡ Some c)
        rest [] s h = cc
        rest (y ∷ ys) s h = pick (y == 45) h
          where
            pick : (t : Bool) → cond t None (Some (y ∷ ys)) ≡ Some letters → (k : ℕ) × (c : ℕ) × (length letters ≡ suc k) × (slice_get (chars letters) 0 ≡ Some c)
            pick true h = cc
            pick false h =
                let is : letters ≡ y ∷ ys = cc in
                let hyphen : b ≡ 45 = eqb-true b 45 d in
                let inner : IsUtf8 bs = IsUtf8-drop (b ∷ bs) 1 utf8 (IsCharBoundary-after_ascii (b ∷ bs) 0 utf8 (omega arith) (omega arith)) in
                spelled letters (subst IsUtf8 (s ∙ sym is) inner) y ys is

pub words_spell : {Z : Type 0} (words : List (String Z)) → AllSpell (map string_bytes words)
words_spell [] = tt
words_spell (w ∷ words) = (spells (string_bytes w) (IsUtf8-string_bytes w), words_spell words)
