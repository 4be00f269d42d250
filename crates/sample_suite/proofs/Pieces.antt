-- Texts that are put together piece by piece.
use Rattle.std.proofs.Common.{◌≡◌, ◌∙◌, ◌+◌, ◌==◌, ℕ, false, codes, refl, sym, ap, List, [], ◌∷◌, ◌++◌, append-nil, append_assoc, length, take}
use Rattle.std.specs.Prelude.{if◌then◌else◌, is_ok, OnOk, Result, Ok, Err}
use Rattle.sample_suite.specs.SampleText.{depends_lines, with_feeds, needs_text}

-- a line of two parts behind a text, with its line feed
pub line_pushed : (words value start one two new : List ℕ) → one ≡ start ++ words → two ≡ one ++ value → new ≡ two ++ 10 ∷ [] → new ≡ start ++ with_feeds ((words ++ value) ∷ [])
line_pushed words value start one two new a b c =
    c ∙ ap (λ t. t ++ 10 ∷ []) (b ∙ ap (λ t. t ++ value) a ∙ append_assoc start words value) ∙ append_assoc start (words ++ value) (10 ∷ [])
    ∙ ap (λ t. start ++ t) (sym (append-nil ((words ++ value) ++ 10 ∷ [])))

pub depends_pushed : (needs : List (List ℕ)) (start one two new : List ℕ) → (length needs == 0) ≡ false → one ≡ start ++ codes "Depends: " → two ≡ one ++ needs_text needs → new ≡ two ++ 10 ∷ [] → new ≡ start ++ with_feeds (depends_lines needs)
depends_pushed [] start one two new some a b c = cc
depends_pushed (element ∷ more) start one two new some a b c = line_pushed (codes "Depends: ") (needs_text (element ∷ more)) start one two new a b c

pub lines_joined : (xs ys : List (List ℕ)) → with_feeds (xs ++ ys) ≡ with_feeds xs ++ with_feeds ys
lines_joined [] ys = refl
lines_joined (x ∷ xs) ys = ap (λ t. (x ++ 10 ∷ []) ++ t) (lines_joined xs ys) ∙ sym (append_assoc (x ++ 10 ∷ []) (with_feeds xs) (with_feeds ys))

-- a call that appends, where it succeeds
pub taken : {T E : Type 0} (result : Result T E) (new whole old : List ℕ) → new ≡ (if is_ok result then whole else old) → OnOk result (new ≡ whole)
taken (Ok x) new whole old e = e
taken (Err x) new whole old e = tt
