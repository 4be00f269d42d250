-- The text of a comparison is cut into its lines, and each line tells what it is about.
use Rattle.std.proofs.Common.{◌≡◌, ℕ, zero, suc, ◌==◌, ◌+◌, ◌/◌, ◌%◌, Bool, true, false, not, List, [], ◌∷◌, ◌++◌, inl, inr, refl, sym, ap, ap₂, ◌∙◌, subst}
use Rattle.std.proofs.{Common.{codes, eqb-true, map, length, filter, arith}, lemmas.Bool.{and_parts, and_from, not-true, not_from_false, false_from_ne_true}}
use Rattle.std.proofs.{lemmas.List.{append-nil, append_assoc}, lemmas.List.Folds.{list_all-append}}
use Rattle.std.specs.{Prelude.{if◌then◌else◌, nat_lt}, Fmt.{decimal, digits, digits_onto, digit_glyph}, List.{flat_map, list_all}}
use Rattle.coinst_run.specs.CompareText.{comparison_line, comparison_text, end_text}
use Rattle.suite_compare.specs.{Listing.{is_broken, says_open}, declared.report.ReportLine.{ReportLine}}
use Rattle.suite_compare.specs.declared.report.ReportLine.TheVariants.{Broken1, Broken2, Open1, Open2}
use Rattle.deb_version.specs.Names.{is_name}
use Rattle.kernel_text.specs.KernelLines.{lines_of}
use Rattle.kernel_text.proofs.{Spelling.{Plain, cut_same, name_plain}, LineCuts.{no_feed, one_line, no_feed_byte, no_feed_both, no_feed_plain}}
use Rattle.listed.specs.Lists.{In, here, there}
use Rattle.listed.proofs.Lists.{In_cases, In_none, In_append_cases, In_append_left, In_map, In_map_cases}

glyph_fed : (d : ℕ) → not (digit_glyph false d == 10) ≡ true
glyph_fed d = by (nat_lt d 10)
  where
    by : (b : Bool) → not ((if b then 48 + d else 87 + d) == 10) ≡ true
    by true = no_feed_byte (48 + d) (λ e. omega (arith, e))
    by false = no_feed_byte (87 + d) (λ e. omega (arith, e))

onto_fed : (k base n : ℕ) (acc : List ℕ) → no_feed acc ≡ true → no_feed (digits_onto k base false n acc) ≡ true
onto_fed zero base n acc h = h
onto_fed (suc k) base n acc h = by (n / base == 0) (onto_fed k base (n / base) (digit_glyph false (n % base) ∷ acc) more)
  where
    more : no_feed (digit_glyph false (n % base) ∷ acc) ≡ true
    more = and_from (not (digit_glyph false (n % base) == 10)) (no_feed acc) (glyph_fed (n % base)) h

    by : (b : Bool) → no_feed (digits_onto k base false (n / base) (digit_glyph false (n % base) ∷ acc)) ≡ true
        → no_feed (if b then digit_glyph false (n % base) ∷ acc else digits_onto k base false (n / base) (digit_glyph false (n % base) ∷ acc)) ≡ true
    by true l = more
    by false l = l

number_fed : (n : ℕ) → no_feed (decimal n) ≡ true
unfolding digits
number_fed n = onto_fed 64 10 n [] refl

-- the names of a line are names
abbrev pub IsNamed : ReportLine → Type 0
IsNamed (Broken1 name) = is_name name ≡ true
IsNamed (Open1 name) = is_name name ≡ true
IsNamed (Broken2 first second) = (is_name first ≡ true) × (is_name second ≡ true)
IsNamed (Open2 first second) = (is_name first ≡ true) × (is_name second ≡ true)

abbrev pub AreNamed : List ReportLine → Type 0
AreNamed lines = (line : ReportLine) → In line lines → IsNamed line

-- the bytes of a line before its line feed
abbrev body : ReportLine → List ℕ
body (Broken1 name) = codes "broken" ++ codes " " ++ name
body (Open1 name) = codes "open" ++ codes " " ++ name
body (Broken2 first second) = codes "broken" ++ codes " " ++ first ++ codes " " ++ second
body (Open2 first second) = codes "open" ++ codes " " ++ first ++ codes " " ++ second

body_with_feed : (line : ReportLine) → comparison_line line ≡ body line ++ 10 ∷ []
body_with_feed (Broken1 name) = refl
body_with_feed (Open1 name) = refl
body_with_feed (Broken2 first second) = refl
body_with_feed (Open2 first second) = refl

name_fed : (name : List ℕ) → is_name name ≡ true → no_feed name ≡ true
name_fed name h = no_feed_plain name (name_plain name h)

body_fed : (line : ReportLine) → IsNamed line → no_feed (body line) ≡ true
body_fed (Broken1 name) h = name_fed name h
body_fed (Open1 name) h = name_fed name h
body_fed (Broken2 first second) h = pair_fed first second (name_fed first h.0) (name_fed second h.1)
  where
    pair_fed : (first second : List ℕ) → no_feed first ≡ true → no_feed second ≡ true → no_feed (body (Broken2 first second)) ≡ true
    pair_fed first second a b = no_feed_both (codes "broken" ++ codes " " ++ first ++ codes " ") second (no_feed_both (codes "broken" ++ codes " " ++ first) (codes " ") a refl) b
body_fed (Open2 first second) h = pair_fed first second (name_fed first h.0) (name_fed second h.1)
  where
    pair_fed : (first second : List ℕ) → no_feed first ≡ true → no_feed second ≡ true → no_feed (body (Open2 first second)) ≡ true
    pair_fed first second a b = no_feed_both (codes "open" ++ codes " " ++ first ++ codes " ") second (no_feed_both (codes "open" ++ codes " " ++ first) (codes " ") a refl) b

-- the lines of the text
texts : (lines : List ReportLine) (rest : List ℕ) → AreNamed lines → lines_of (flat_map comparison_line lines ++ rest) ≡ map comparison_line lines ++ lines_of rest
texts [] rest h = refl
texts (x ∷ xs) rest h =
    ap lines_of (append_assoc (comparison_line x) (flat_map comparison_line xs) rest)
    ∙ ap (λ z. lines_of (z ++ (flat_map comparison_line xs ++ rest))) (body_with_feed x)
    ∙ one_line (body x) (flat_map comparison_line xs ++ rest) (body_fed x (h x here))
    ∙ ap (λ z. z ∷ lines_of (flat_map comparison_line xs ++ rest)) (sym (body_with_feed x))
    ∙ ap (λ z. comparison_line x ∷ z) (texts xs rest (λ line i. h line (there i)))

end_body : List ReportLine → List ℕ
end_body lines = codes "end " ++ decimal (length (filter is_broken lines)) ++ codes " " ++ decimal (length (filter says_open lines))

end_line : (lines : List ReportLine) → lines_of (end_text lines) ≡ end_text lines ∷ []
unfolding end_text end_body
end_line lines =
    ap lines_of (sym (append-nil (end_body lines ++ 10 ∷ [])))
    ∙ one_line (end_body lines) [] (no_feed_both (codes "end " ++ decimal (length (filter is_broken lines)) ++ codes " ") (decimal (length (filter says_open lines))) (no_feed_both (codes "end " ++ decimal (length (filter is_broken lines))) (codes " ") (number_fed (length (filter is_broken lines))) refl) (number_fed (length (filter says_open lines))))

pub lines_are : (lines : List ReportLine) → AreNamed lines → lines_of (comparison_text lines) ≡ map comparison_line lines ++ end_text lines ∷ []
unfolding comparison_text
lines_are lines h = texts lines (end_text lines) h ∙ ap (λ z. map comparison_line lines ++ z) (end_line lines)

-- a line is not the last one
not_end : (line : ReportLine) (lines : List ReportLine) → comparison_line line ≡ end_text lines → ⊥
unfolding end_text
not_end (Broken1 name) lines e = let h : ◌≡◌ {A = ℕ} 98 101 = cc in absurd (omega (arith, h))
not_end (Open1 name) lines e = let h : ◌≡◌ {A = ℕ} 111 101 = cc in absurd (omega (arith, h))
not_end (Broken2 first second) lines e = let h : ◌≡◌ {A = ℕ} 98 101 = cc in absurd (omega (arith, h))
not_end (Open2 first second) lines e = let h : ◌≡◌ {A = ℕ} 111 101 = cc in absurd (omega (arith, h))

-- names behind a word
same_name : (a b : List ℕ) → is_name a ≡ true → is_name b ≡ true → a ++ 10 ∷ [] ≡ b ++ 10 ∷ [] → a ≡ b
same_name a b h k e = (cut_same a b (10 ∷ []) (10 ∷ []) (name_plain a h) (name_plain b k) (inr refl) (inr refl) e).0

pair_text_is : (a b : List ℕ) → a ++ (32 ∷ []) ++ b ++ 10 ∷ [] ≡ a ++ (32 ∷ (b ++ 10 ∷ []))
pair_text_is a b = ap (λ z. z ++ 10 ∷ []) (append_assoc a (32 ∷ []) b) ∙ append_assoc a (32 ∷ b) (10 ∷ [])

same_pair : (a b c d : List ℕ) → is_name a ≡ true → is_name b ≡ true → is_name c ≡ true → is_name d ≡ true → a ++ (32 ∷ []) ++ b ++ 10 ∷ [] ≡ c ++ (32 ∷ []) ++ d ++ 10 ∷ [] → (a ≡ c) × (b ≡ d)
same_pair a b c d h i j k e =
    let w : (a ≡ c) × ((32 ∷ (b ++ 10 ∷ [])) ≡ (32 ∷ (d ++ 10 ∷ []))) =
    cut_same a c (32 ∷ (b ++ 10 ∷ [])) (32 ∷ (d ++ 10 ∷ [])) (name_plain a h) (name_plain c j) (inl refl) (inl refl) (sym (pair_text_is a b) ∙ e ∙ pair_text_is c d) in
    let t : b ++ 10 ∷ [] ≡ d ++ 10 ∷ [] = let q = w.1 in cc in
    (w.0, same_name b d i k t)

one_or_two : (a c d : List ℕ) → is_name a ≡ true → is_name c ≡ true → a ++ 10 ∷ [] ≡ c ++ (32 ∷ []) ++ d ++ 10 ∷ [] → ⊥
one_or_two a c d h j e =
    let w : (a ≡ c) × ((10 ∷ []) ≡ (32 ∷ (d ++ 10 ∷ []))) =
    cut_same a c (10 ∷ []) (32 ∷ (d ++ 10 ∷ [])) (name_plain a h) (name_plain c j) (inr refl) (inl refl) (e ∙ pair_text_is c d) in
    let t : ◌≡◌ {A = ℕ} 10 32 = let q = w.1 in cc in
    absurd (omega (arith, t))

-- a line tells what it is
pub same_line : (x y : ReportLine) → IsNamed x → IsNamed y → comparison_line x ≡ comparison_line y → x ≡ y
same_line (Broken1 a) (Broken1 b) h k e = ap Broken1 (same_name a b h k cc)
same_line (Broken1 a) (Broken2 c d) h k e = absurd (one_or_two a c d h k.0 cc)
same_line (Broken1 a) (Open1 b) h k e = let t : ◌≡◌ {A = ℕ} 98 111 = cc in absurd (omega (arith, t))
same_line (Broken1 a) (Open2 c d) h k e = let t : ◌≡◌ {A = ℕ} 98 111 = cc in absurd (omega (arith, t))
same_line (Broken2 a b) (Broken1 c) h k e = absurd (one_or_two c a b k h.0 (let q = sym e in cc))
same_line (Broken2 a b) (Broken2 c d) h k e = let w : (a ≡ c) × (b ≡ d) = same_pair a b c d h.0 h.1 k.0 k.1 cc in ap₂ Broken2 w.0 w.1
same_line (Broken2 a b) (Open1 c) h k e = let t : ◌≡◌ {A = ℕ} 98 111 = cc in absurd (omega (arith, t))
same_line (Broken2 a b) (Open2 c d) h k e = let t : ◌≡◌ {A = ℕ} 98 111 = cc in absurd (omega (arith, t))
same_line (Open1 a) (Broken1 b) h k e = let t : ◌≡◌ {A = ℕ} 111 98 = cc in absurd (omega (arith, t))
same_line (Open1 a) (Broken2 c d) h k e = let t : ◌≡◌ {A = ℕ} 111 98 = cc in absurd (omega (arith, t))
same_line (Open1 a) (Open1 b) h k e = ap Open1 (same_name a b h k cc)
same_line (Open1 a) (Open2 c d) h k e = absurd (one_or_two a c d h k.0 cc)
same_line (Open2 a b) (Broken1 c) h k e = let t : ◌≡◌ {A = ℕ} 111 98 = cc in absurd (omega (arith, t))
same_line (Open2 a b) (Broken2 c d) h k e = let t : ◌≡◌ {A = ℕ} 111 98 = cc in absurd (omega (arith, t))
same_line (Open2 a b) (Open1 c) h k e = absurd (one_or_two c a b k h.0 (let q = sym e in cc))
same_line (Open2 a b) (Open2 c d) h k e = let w : (a ≡ c) × (b ≡ d) = same_pair a b c d h.0 h.1 k.0 k.1 cc in ap₂ Open2 w.0 w.1

-- a line is printed where it stands in the list
pub printed_where : (lines : List ReportLine) → AreNamed lines → (line : ReportLine) → IsNamed line → In (comparison_line line) (lines_of (comparison_text lines)) → In line lines
printed_where lines all line h i =
    elim (In_append_cases (map comparison_line lines) (end_text lines ∷ []) (comparison_line line) (subst (λ z. In (comparison_line line) z) (lines_are lines all) i)) [
      | inl l ↦
          let w : (x : ReportLine) × In x lines × (comparison_line line ≡ comparison_line x) = In_map_cases comparison_line lines (comparison_line line) l in
          subst (λ z. In z lines) (sym (same_line line w.0 h (all w.0 w.1) w.2)) w.1
      | inr r ↦ elim (In_cases r) [ inl e ↦ absurd (not_end line lines e) | inr j ↦ absurd (In_none j) ]
    ]

pub stands_printed : (lines : List ReportLine) → AreNamed lines → (line : ReportLine) → In line lines → In (comparison_line line) (lines_of (comparison_text lines))
stands_printed lines all line i =
    subst (λ z. In (comparison_line line) z) (sym (lines_are lines all)) (In_append_left (map comparison_line lines) (end_text lines ∷ []) (comparison_line line) (In_map comparison_line lines line i))
