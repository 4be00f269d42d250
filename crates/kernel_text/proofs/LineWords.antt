-- The words of a line, and what they say.
use Rattle.std.proofs.Common.{◌≡◌, ℕ, zero, suc, ◌-◌, ◌<◌, Bool, true, false, eqb, not, ◌==◌, List, [], ◌∷◌, ◌++◌, Option, Some, None, length, take, drop}
use Rattle.std.proofs.Common.{get_or, inr, refl, sym, ap, ap₂, ◌∙◌, subst, codes, eqb-true, arith}
use Rattle.std.proofs.lemmas.Bool.{and_parts, and_from, both_ways, false_from_ne_true, not-true, not_from_false}
use Rattle.std.proofs.{lemmas.List.{append-nil, append_cancel_right, length-append, take-append-drop}, lemmas.Slice.Eq.{bytes_eq-Decides, starts_is}}
use Rattle.std.proofs.{lemmas.Bool.Decides.{Decides-eqb}, lemmas.Option.{same_Some}}
use Rattle.std.specs.{Fmt.{decimal}, Str.{bytes_eq}, List.{starts_with}}
use Rattle.memchr.specs.Find.{IsFirstByte, is_byte}
use Rattle.kernel_text.specs.declared.content.LineContent.{LineContent}
use Rattle.kernel_text.specs.KernelLines.{KernelLine, HeadLine, ClassLine, MemberLine, HeldLine, NeedsLine, AgainstLine, EndLine, line_text}
use Rattle.kernel_text.specs.{Reading.{IsFormat, IsNamed, number_limit}, Numbers.{NumberRead}}
use Rattle.kernel_text.specs.Words.{IsCut, LineIsRead, WordsAreRead, behind_word, first_word, is_word, line_of_content, other_words}
use Rattle.kernel_text.proofs.Spelling.{Plain, decimal_plain, format_low, kind, kind_of, name_plain, number_same}

-- cutting at the first space
found_word : (text : List ℕ) (n : ℕ) → n < length text → ((k : ℕ) → k < n → (get_or text k 0 == 32) ≡ false) → (get_or text n 0 == 32) ≡ true →
    IsCut text (take n text) (Some (drop (suc n) text))
found_word [] n l before at = absurd (omega arith)
found_word (b ∷ bs) zero l before at = record { whole = ap (λ c. c ∷ bs) (eqb-true b 32 at); word = refl }
found_word (b ∷ bs) (suc n) l before at =
    let no : (b == 32) ≡ false = before 0 (omega arith) in
    let more : IsCut bs (take n bs) (Some (drop (suc n) bs)) = found_word bs n (omega arith) (λ k m. before (suc k) (omega arith)) at in
    record { whole = ap (λ cs. b ∷ cs) more.whole; word = and_from (not (b == 32)) (is_word (take n bs)) (not_from_false (b == 32) no) more.word }

one_word : (text : List ℕ) → ((k : ℕ) → k < length text → (get_or text k 0 == 32) ≡ false) → is_word text ≡ true
one_word [] none = refl
one_word (b ∷ bs) none = and_from (not (b == 32)) (is_word bs) (not_from_false (b == 32) (none 0 (omega arith))) (one_word bs (λ k l. none (suc k) (omega arith)))

pub cut_found : (text : List ℕ) (n : ℕ) → IsFirstByte (is_byte 32) text (Some n) → IsCut text (take n text) (Some (drop (suc n) text))
cut_found text n h = found_word text n h.0.high (λ k l. false_from_ne_true (get_or text k 0 == 32) (h.0.before k (omega arith) l)) h.1

pub cut_missed : (text : List ℕ) → IsFirstByte (is_byte 32) text None → IsCut text text None
cut_missed text h = record { whole = sym (append-nil text); word = one_word text (λ k l. false_from_ne_true (get_or text k 0 == 32) (h k (omega arith) l)) }

-- a text that begins with a word and a space is cut there
pub member_cut : (text : List ℕ) (begins : Bool) → begins ≡ starts_with eqb text (codes "member ") → begins ≡ true → IsCut text (take 6 text) (Some (drop 7 text))
member_cut text begins e is =
    let whole : text ≡ codes "member " ++ drop 7 text = (starts_is Decides-eqb text (codes "member ") begins e).0 is in
    let word : take 6 text ≡ codes "member" = ap (take 6) whole in
    record { whole = whole ∙ sym (ap (λ first. first ++ 32 ∷ drop 7 text) word); word = ap is_word word }

-- a text is cut in one way
no_space : (y : ℕ) (ys : List ℕ) → is_word (y ∷ ys) ≡ true → (y == 32) ≡ true → ⊥
no_space y ys h e = both_ways (y == 32) (not-true (y == 32) (and_parts (not (y == 32)) (is_word ys) h).0) e

pub head_of : List ℕ → ℕ
head_of [] = 0
head_of (c ∷ cs) = c

pub rest_of : List ℕ → List ℕ
rest_of [] = []
rest_of (c ∷ cs) = cs

pub same_rest : (r s : Option (List ℕ)) → behind_word r ≡ behind_word s → r ≡ s
unfolding rest_of
same_rest None None e = refl
same_rest None (Some s) e = absurd (let l : 0 ≡ suc (length s) = ap length e in omega (arith, l))
same_rest (Some r) None e = absurd (let l : suc (length r) ≡ 0 = ap length e in omega (arith, l))
same_rest (Some r) (Some s) e = ap Some (ap rest_of e)

pub same_cut : (a b : List ℕ) (r s : Option (List ℕ)) → is_word a ≡ true → is_word b ≡ true → a ++ behind_word r ≡ b ++ behind_word s → (a ≡ b) × (r ≡ s)
unfolding head_of rest_of
same_cut [] [] r s p q e = (refl, same_rest r s e)
same_cut [] (y ∷ ys) None s p q e = absurd (let l : 0 ≡ suc (length (ys ++ behind_word s)) = ap length e in omega (arith, l))
same_cut [] (y ∷ ys) (Some r) s p q e = absurd (no_space y ys q (ap (λ (text : List ℕ). head_of text == 32) (sym e)))
same_cut (x ∷ xs) [] r None p q e = absurd (let l : suc (length (xs ++ behind_word r)) ≡ 0 = ap length e in omega (arith, l))
same_cut (x ∷ xs) [] r (Some s) p q e = absurd (no_space x xs p (ap (λ (text : List ℕ). head_of text == 32) e))
same_cut (x ∷ xs) (y ∷ ys) r s p q e =
    let more : (xs ≡ ys) × (r ≡ s) = same_cut xs ys r s (and_parts (not (x == 32)) (is_word xs) p).1 (and_parts (not (y == 32)) (is_word ys) q).1 (ap rest_of e) in
    (ap₂ (λ z zs. z ∷ zs) (ap head_of e) more.0, more.1)

-- a line is its words and its line feed
line_words : (l : KernelLine) → line_text l ≡ (first_word l ++ behind_word (other_words l)) ++ 10 ∷ []
unfolding line_text
line_words (HeadLine format) = refl
line_words (ClassLine n) = refl
line_words (MemberLine name version) = refl
line_words HeldLine = refl
line_words (NeedsLine []) = refl
line_words (NeedsLine (x ∷ xs)) = refl
line_words (AgainstLine m) = refl
line_words (EndLine classes members) = refl

first_is_word : (l : KernelLine) → is_word (first_word l) ≡ true
first_is_word (HeadLine format) = refl
first_is_word (ClassLine n) = refl
first_is_word (MemberLine name version) = refl
first_is_word HeldLine = refl
first_is_word (NeedsLine clause) = refl
first_is_word (AgainstLine m) = refl
first_is_word (EndLine classes members) = refl

pub read_words_are_line : (line body word : List ℕ) (rest : Option (List ℕ)) (read : Option LineContent) → line ≡ body ++ 10 ∷ [] → IsCut body word rest → WordsAreRead word rest read → LineIsRead line read
read_words_are_line line body word rest (Some content) e cut w =
    let l : KernelLine = line_of_content content in
    (e ∙ ap (λ t. t ++ 10 ∷ []) (cut.whole ∙ ap₂ (λ a r. a ++ behind_word r) w.0 w.1) ∙ sym (line_words l), w.2)
read_words_are_line line body word rest None e cut w = λ l f fits.
    let same : body ≡ first_word l ++ behind_word (other_words l) = append_cancel_right body (first_word l ++ behind_word (other_words l)) (10 ∷ []) (sym e ∙ f ∙ line_words l) in
    let parts : (word ≡ first_word l) × (rest ≡ other_words l) = same_cut word (first_word l) rest (other_words l) cut.word (first_is_word l) (sym cut.whole ∙ same) in
    w l parts.0 parts.1 fits

pub no_feed_no_line : (line : List ℕ) → ((body : List ℕ) → line ≡ body ++ 10 ∷ [] → ⊥) → LineIsRead line None
no_feed_no_line line none l f fits = none (first_word l ++ behind_word (other_words l)) (f ∙ line_words l)

-- the kind of a line is told by its first word
word_kind : (l : KernelLine) → kind (first_word l) ≡ kind_of l
unfolding kind
word_kind (HeadLine format) = refl
word_kind (ClassLine n) = refl
word_kind (MemberLine name version) = refl
word_kind HeldLine = refl
word_kind (NeedsLine clause) = refl
word_kind (AgainstLine m) = refl
word_kind (EndLine classes members) = refl

pub same_kind : (k l : KernelLine) (word : List ℕ) → word ≡ first_word k → word ≡ first_word l → kind_of k ≡ kind_of l
same_kind k l word e f = sym (word_kind k) ∙ ap kind (sym e ∙ f) ∙ word_kind l

plain_word : (text : List ℕ) → Plain text → is_word text ≡ true
plain_word [] p = refl
plain_word (c ∷ cs) p = and_from (not (c == 32)) (is_word cs) (not_from_false (c == 32) (false_from_ne_true (c == 32) (λ e. p.0.0 (eqb-true c 32 e)))) (plain_word cs p.1)

-- what stands behind the first word and is none that the line allows
pub no_head : (word rest : List ℕ) → word ≡ codes "coinst-kernel" → ((f : ℕ) → rest ≡ decimal f → IsFormat f → ⊥) → WordsAreRead word (Some rest) None
no_head word rest e none (HeadLine format) w r fits = none format (same_Some rest (decimal format) r) fits
no_head word rest e none (ClassLine n) w r fits = absurd (omega (arith, same_kind (HeadLine 1) (ClassLine n) word e w))
no_head word rest e none (MemberLine a v) w r fits = absurd (omega (arith, same_kind (HeadLine 1) (MemberLine a v) word e w))
no_head word rest e none HeldLine w r fits = absurd (omega (arith, same_kind (HeadLine 1) HeldLine word e w))
no_head word rest e none (NeedsLine c) w r fits = absurd (omega (arith, same_kind (HeadLine 1) (NeedsLine c) word e w))
no_head word rest e none (AgainstLine m) w r fits = absurd (omega (arith, same_kind (HeadLine 1) (AgainstLine m) word e w))
no_head word rest e none (EndLine c d) w r fits = absurd (omega (arith, same_kind (HeadLine 1) (EndLine c d) word e w))

-- the number is that of no format
pub other_format : (word rest : List ℕ) (n : ℕ) → word ≡ codes "coinst-kernel" → NumberRead rest (Some n) → (IsFormat n → ⊥) → WordsAreRead word (Some rest) None
other_format word rest n e h none =
    no_head word rest e (λ f same known.
    none (subst IsFormat (number_same f n (10 ∷ []) (10 ∷ []) (format_low f known) h.1 (inr refl) (inr refl) (ap (λ t. t ++ 10 ∷ []) (sym same ∙ h.0))).0 known))

-- the two numbers of the end line
pub digits_word : (n : ℕ) → n < number_limit → is_word (decimal n) ≡ true
digits_word n l = plain_word (decimal n) (decimal_plain n l)

-- where one of them is none, or there is no second
pub no_end : (word rest first : List ℕ) (second : Option (List ℕ)) → word ≡ codes "end" → IsCut rest first second →
    ((c d : ℕ) → c < number_limit → d < number_limit → first ≡ decimal c → second ≡ Some (decimal d) → ⊥) → WordsAreRead word (Some rest) None
no_end word rest first second e cut none (HeadLine format) w r fits = absurd (omega (arith, same_kind (EndLine 0 0) (HeadLine format) word e w))
no_end word rest first second e cut none (ClassLine n) w r fits = absurd (omega (arith, same_kind (EndLine 0 0) (ClassLine n) word e w))
no_end word rest first second e cut none (MemberLine a v) w r fits = absurd (omega (arith, same_kind (EndLine 0 0) (MemberLine a v) word e w))
no_end word rest first second e cut none HeldLine w r fits = absurd (omega (arith, same_kind (EndLine 0 0) HeldLine word e w))
no_end word rest first second e cut none (NeedsLine c) w r fits = absurd (omega (arith, same_kind (EndLine 0 0) (NeedsLine c) word e w))
no_end word rest first second e cut none (AgainstLine m) w r fits = absurd (omega (arith, same_kind (EndLine 0 0) (AgainstLine m) word e w))
no_end word rest first second e cut none (EndLine c d) w r fits =
    let same : (first ≡ decimal c) × (second ≡ Some (decimal d)) =
    same_cut first (decimal c) second (Some (decimal d)) cut.word (digits_word c fits.0) (sym cut.whole ∙ same_Some rest (decimal c ++ 32 ∷ decimal d) r) in
    none c d fits.0 fits.1 same.0 same.1

pub no_member : (word rest first : List ℕ) (second : Option (List ℕ)) → word ≡ codes "member" → IsCut rest first second →
    ((version : List ℕ) → second ≡ Some version → IsNamed first version → ⊥) → WordsAreRead word (Some rest) None
no_member word rest first second e cut none (HeadLine format) w r fits = absurd (omega (arith, same_kind (MemberLine [] []) (HeadLine format) word e w))
no_member word rest first second e cut none (ClassLine n) w r fits = absurd (omega (arith, same_kind (MemberLine [] []) (ClassLine n) word e w))
no_member word rest first second e cut none (MemberLine a v) w r fits =
    let same : (first ≡ a) × (second ≡ Some v) =
    same_cut first a second (Some v) cut.word (plain_word a (name_plain a fits.0)) (sym cut.whole ∙ same_Some rest (a ++ 32 ∷ v) r) in
    none v same.1 (subst (λ t. IsNamed t v) (sym same.0) fits)
no_member word rest first second e cut none HeldLine w r fits = absurd (omega (arith, same_kind (MemberLine [] []) HeldLine word e w))
no_member word rest first second e cut none (NeedsLine c) w r fits = absurd (omega (arith, same_kind (MemberLine [] []) (NeedsLine c) word e w))
no_member word rest first second e cut none (AgainstLine m) w r fits = absurd (omega (arith, same_kind (MemberLine [] []) (AgainstLine m) word e w))
no_member word rest first second e cut none (EndLine c d) w r fits = absurd (omega (arith, same_kind (MemberLine [] []) (EndLine c d) word e w))

-- the line feed at the end of a line
last_byte : (body : List ℕ) → drop (length (body ++ 10 ∷ []) - 1) (body ++ 10 ∷ []) ≡ 10 ∷ []
last_byte body = ap (λ n. drop n (body ++ 10 ∷ [])) (rw length-append (omega arith)) ∙ behind body
  where
    behind : (xs : List ℕ) → drop (length xs) (xs ++ 10 ∷ []) ≡ 10 ∷ []
    behind [] = refl
    behind (x ∷ xs) = behind xs

pub feed_missed : (line : List ℕ) → bytes_eq (drop (length line - 1) line) (10 ∷ []) ≡ false → (body : List ℕ) → line ≡ body ++ 10 ∷ [] → ⊥
feed_missed line h body e =
    both_ways (bytes_eq (drop (length line - 1) line) (10 ∷ [])) h ((bytes_eq-Decides (drop (length line - 1) line) (10 ∷ [])).1 (ap (λ xs. drop (length xs - 1) xs) e ∙ last_byte body))

pub feed_found : (line body : List ℕ) → bytes_eq (drop (length line - 1) line) (10 ∷ []) ≡ true → body ≡ take (length line - 1) line → line ≡ body ++ 10 ∷ []
feed_found line body h e =
    sym (take-append-drop (length line - 1) line) ∙ ap₂ (λ xs ys. xs ++ ys) (sym e) ((bytes_eq-Decides (drop (length line - 1) line) (10 ∷ [])).0 h)
