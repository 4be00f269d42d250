-- The lines of a text that is put together from lines.
use Rattle.std.proofs.Common.{◌≡◌, ℕ, ◌==◌, ◌<◌, Bool, true, false, not, List, [], ◌∷◌, ◌++◌, refl, sym, ap, ◌∙◌, subst, codes, eqb-true}
use Rattle.std.proofs.{lemmas.Bool.{and_parts, and_from, not-true, not_from_false, false_from_ne_true, false≢true}, lemmas.List.Folds.{list_all-append}}
use Rattle.std.specs.{Fmt.{decimal}, List.{flat_map, list_all}}
use Rattle.deb_version.specs.Grammar.{is_upstream_byte}
use Rattle.relation_fields.proofs.Bytes.{version_bytes}
use Rattle.listed.specs.Lists.{In, here, there}
use Rattle.kernel_text.specs.KernelLines.{KernelLine, HeadLine, ClassLine, MemberLine, HeldLine, NeedsLine, AgainstLine, EndLine, lines_of, line_text}
use Rattle.kernel_text.specs.{KernelLines.{behind_space}, Reading.{Reading, with_line, number_limit}}
use Rattle.kernel_text.proofs.{Allowed.{IsAllowed, LinesGive}, Spelling.{Plain, decimal_plain, format_low, name_plain}}

-- no line feed
abbrev pub no_feed : List ℕ → Bool
no_feed text = list_all (λ c. not (c == 10)) text

pub one_line : (body rest : List ℕ) → no_feed body ≡ true → lines_of ((body ++ 10 ∷ []) ++ rest) ≡ (body ++ 10 ∷ []) ∷ lines_of rest
one_line [] rest h = refl
one_line (b ∷ bs) rest h =
    let w : (not (b == 10) ≡ true) × (no_feed bs ≡ true) = and_parts (not (b == 10)) (no_feed bs) h in
    let e : (b == 10) ≡ false = not-true (b == 10) w.0 in
    rw (e, one_line bs rest w.1) refl

pub no_feed_both : (xs ys : List ℕ) → no_feed xs ≡ true → no_feed ys ≡ true → no_feed (xs ++ ys) ≡ true
no_feed_both xs ys a b = list_all-append (λ c. not (c == 10)) xs ys ∙ and_from (no_feed xs) (no_feed ys) a b

pub no_feed_byte : (c : ℕ) → (c ≡ 10 → ⊥) → not (c == 10) ≡ true
no_feed_byte c h = not_from_false (c == 10) (false_from_ne_true (c == 10) (λ e. h (eqb-true c 10 e)))

pub no_feed_plain : (xs : List ℕ) → Plain xs → no_feed xs ≡ true
no_feed_plain [] p = refl
no_feed_plain (c ∷ cs) p = and_from (not (c == 10)) (no_feed cs) (no_feed_byte c p.0.1) (no_feed_plain cs p.1)

number_fed : (n : ℕ) → n < number_limit → no_feed (decimal n) ≡ true
number_fed n l = no_feed_plain (decimal n) (decimal_plain n l)

numbers_fed : (xs : List ℕ) → ((l : ℕ) → In l xs → l < number_limit) → no_feed (flat_map behind_space xs) ≡ true
numbers_fed [] h = refl
numbers_fed (x ∷ xs) h = no_feed_both (decimal x) (flat_map behind_space xs) (number_fed x (h x here)) (numbers_fed xs (λ l i. h l (there i)))

version_fed : (text : List ℕ) → list_all is_upstream_byte text ≡ true → no_feed text ≡ true
version_fed [] h = refl
version_fed (c ∷ cs) h =
    let w : (is_upstream_byte c ≡ true) × (list_all is_upstream_byte cs ≡ true) = and_parts (is_upstream_byte c) (list_all is_upstream_byte cs) h in
    and_from (not (c == 10)) (no_feed cs) (no_feed_byte c (λ e. false≢true (subst (λ z. is_upstream_byte z ≡ true) e w.0))) (version_fed cs w.1)

-- the bytes of a line before its line feed
body : KernelLine → List ℕ
body (HeadLine format) = codes "coinst-kernel" ++ behind_space format
body (ClassLine n) = codes "class" ++ behind_space n
body (MemberLine name version) = codes "member " ++ name ++ 32 ∷ version
body HeldLine = codes "held"
body (NeedsLine clause) = codes "needs" ++ flat_map behind_space clause
body (AgainstLine m) = codes "against" ++ behind_space m
body (EndLine classes members) = codes "end" ++ behind_space classes ++ behind_space members

body_with_feed : (l : KernelLine) → line_text l ≡ body l ++ 10 ∷ []
unfolding body line_text
body_with_feed (HeadLine format) = refl
body_with_feed (ClassLine n) = refl
body_with_feed (MemberLine name version) = refl
body_with_feed HeldLine = refl
body_with_feed (NeedsLine clause) = refl
body_with_feed (AgainstLine m) = refl
body_with_feed (EndLine classes members) = refl

body_fed : (t : Reading) (l : KernelLine) → IsAllowed t l → no_feed (body l) ≡ true
unfolding body
body_fed t (HeadLine format) a = number_fed format (format_low format a.1)
body_fed t (ClassLine n) a = number_fed n a.2
body_fed t (MemberLine name version) a = no_feed_both name (32 ∷ version) (no_feed_plain name (name_plain name a.1.0)) (version_fed version (version_bytes version a.1.1))
body_fed t HeldLine a = refl
body_fed t (NeedsLine clause) a = numbers_fed clause a.1.low
body_fed t (AgainstLine m) a = number_fed m a.2
body_fed t (EndLine classes members) a = no_feed_both (decimal classes) (behind_space members) (number_fed classes a.1) (number_fed members a.2)

pub first_line : (t : Reading) (l : KernelLine) (rest : List ℕ) → IsAllowed t l → lines_of (line_text l ++ rest) ≡ line_text l ∷ lines_of rest
first_line t l rest a =
    ap (λ s. lines_of (s ++ rest)) (body_with_feed l) ∙ one_line (body l) rest (body_fed t l a) ∙ ap (λ s. s ∷ lines_of rest) (sym (body_with_feed l))

-- lines one behind the other
abbrev pub with_lines : Reading → List KernelLine → Reading
with_lines t [] = t
with_lines t (l ∷ ls) = with_lines (with_line t l) ls

abbrev pub AreAllowed : Reading → List KernelLine → Type 0
AreAllowed t [] = Unit {0}
AreAllowed t (l ∷ ls) = IsAllowed t l × AreAllowed (with_line t l) ls

pub text_gives : (t : Reading) (ls : List KernelLine) → AreAllowed t ls → LinesGive t (lines_of (flat_map line_text ls)) (with_lines t ls)
text_gives t [] a = refl
text_gives t (l ∷ ls) a =
    subst (λ cut. LinesGive t cut (with_lines t (l ∷ ls))) (sym (first_line t l (flat_map line_text ls) a.0)) (l, refl, a.0, text_gives (with_line t l) ls a.1)
