-- The first line of a text.
use Rattle.std.proofs.Common.{◌≡◌, ℕ, zero, suc, ◌+◌, ◌-◌, ◌==◌, ◌<◌, true, false, List, [], ◌∷◌, Some, None, length, take, drop, get_or, refl, sym, ap, ap₂}
use Rattle.std.proofs.{Common.{◌∙◌, subst, arith}, lemmas.Bool.{false_from_ne_true}, lemmas.List.{length-drop, drop-drop}}
use Rattle.listed.proofs.Lists.{to_end}
use Rattle.memchr.specs.Find.{IsFirstByte, is_byte}
use Rattle.kernel_text.specs.KernelLines.{lines_of}

found_cut : (text : List ℕ) (n : ℕ) → n < length text → ((k : ℕ) → k < n → (get_or text k 0 == 10) ≡ false) → (get_or text n 0 == 10) ≡ true →
    lines_of text ≡ take (suc n) text ∷ lines_of (drop (suc n) text)
found_cut [] n l before at = absurd (omega arith)
found_cut (b ∷ bs) zero l before at = rw at refl
found_cut (b ∷ bs) (suc n) l before at =
    let no : (b == 10) ≡ false = before 0 (omega arith) in
    rw (no, found_cut bs n (omega arith) (λ k m. before (suc k) (omega arith)) at) refl

no_cut : (text : List ℕ) → 0 < length text → ((k : ℕ) → k < length text → (get_or text k 0 == 10) ≡ false) → lines_of text ≡ text ∷ []
no_cut [] l none = absurd (omega arith)
no_cut (b ∷ []) l none =
    let no : (b == 10) ≡ false = none 0 (omega arith) in
    rw no refl
no_cut (b ∷ (c ∷ cs)) l none =
    let no : (b == 10) ≡ false = none 0 (omega arith) in
    rw (no, no_cut (c ∷ cs) (omega arith) (λ k m. none (suc k) (omega arith))) refl

pub cut_found : (text : List ℕ) (n : ℕ) → IsFirstByte (is_byte 10) text (Some n) → lines_of text ≡ take (suc n) text ∷ lines_of (drop (suc n) text)
cut_found text n h = found_cut text n h.0.high (λ k l. false_from_ne_true (get_or text k 0 == 10) (h.0.before k (omega arith) l)) h.1

pub cut_missed : (text : List ℕ) → 0 < length text → IsFirstByte (is_byte 10) text None → lines_of text ≡ text ∷ []
cut_missed text l h = no_cut text l (λ k m. false_from_ne_true (get_or text k 0 == 10) (h k (omega arith) m))

pub end_found : (bytes : List ℕ) (from n : ℕ) → IsFirstByte (is_byte 10) (take (length bytes - from) (drop from bytes)) (Some n) →
    lines_of (drop from bytes) ≡ take (from + n + 1 - from) (drop from bytes) ∷ lines_of (drop (from + n + 1) bytes)
end_found bytes from n h =
    let place : from + n + 1 - from ≡ suc n = omega arith in
    let behind : from + suc n ≡ from + n + 1 = omega arith in
    cut_found (drop from bytes) n (subst (λ t. IsFirstByte (is_byte 10) t (Some n)) (to_end from bytes) h)
    ∙ ap₂ (λ xs ys. xs ∷ lines_of ys) (ap (λ k. take k (drop from bytes)) (sym place)) (drop-drop (suc n) from bytes ∙ ap (λ k. drop k bytes) behind)

no_bytes : (bytes : List ℕ) → drop (length bytes) bytes ≡ []
no_bytes [] = refl
no_bytes (b ∷ bs) = no_bytes bs

pub end_missed : (bytes : List ℕ) (from : ℕ) → from < length bytes → IsFirstByte (is_byte 10) (take (length bytes - from) (drop from bytes)) None →
    lines_of (drop from bytes) ≡ take (length bytes - from) (drop from bytes) ∷ lines_of (drop (length bytes) bytes)
end_missed bytes from l h =
    let some : 0 < length (drop from bytes) = rw (length-drop from bytes) (omega arith) in
    cut_missed (drop from bytes) some (subst (λ t. IsFirstByte (is_byte 10) t None) (to_end from bytes) h)
    ∙ ap₂ (λ xs ys. xs ∷ lines_of ys) (sym (to_end from bytes)) (sym (no_bytes bytes))
