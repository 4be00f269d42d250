-- A text in which the lines of some stanzas are made empty has the other stanzas.
use Rattle.std.proofs.Common.{◌≡◌, ℕ, ◌+◌, ◌≤◌, Bool, true, false, ◌||◌, List, [], ◌∷◌, ◌++◌, length, refl, ap, sym, ◌∙◌, subst, arith, append_assoc}
use Rattle.std.proofs.{Common.{length-append}, lemmas.List.{append-nil}}
use Rattle.std.specs.List.{concat, list_any}
use Rattle.stanza_reader.specs.{Blanking.{whole_lines, is_blank_whole, first_flag, emptied, line_left, flags_behind, lines_left, blanked}, Lines.{is_line_feed}}
use Rattle.stanza_reader.proofs.BlankLemmas.{concat_whole}

emptied_short : (line : List ℕ) → length (emptied line) ≤ length line
emptied_short [] = omega arith
emptied_short (b ∷ bs) = go (list_any is_line_feed (b ∷ bs)) refl
  where
    go : (t : Bool) → list_any is_line_feed (b ∷ bs) ≡ t → length (emptied (b ∷ bs)) ≤ length (b ∷ bs)
    go true some = let left : emptied (b ∷ bs) ≡ 10 ∷ [] = rw some refl in rw left (omega arith)
    go false none = let left : emptied (b ∷ bs) ≡ [] = rw none refl in rw left (omega arith)

line_short : (flags : List Bool) (line : List ℕ) (t : Bool) → (is_blank_whole line || first_flag flags) ≡ t → length (line_left flags line) ≤ length line
line_short flags line true stays = let left : line_left flags line ≡ line = rw stays refl in rw left (omega arith)
line_short flags line false goes = let left : line_left flags line ≡ emptied line = rw goes refl in rw left (emptied_short line)

left_short : (flags : List Bool) (all : List (List ℕ)) → length (concat (lines_left flags all)) ≤ length (concat all)
left_short flags [] = omega arith
left_short flags (line ∷ more) =
    let here = line_short flags line _ refl in
    let later = left_short (flags_behind flags line more) more in
    let own : length (line_left flags line ++ concat (lines_left (flags_behind flags line more) more)) ≡ length (line_left flags line) + length (concat (lines_left (flags_behind flags line more) more)) =
    length-append (line_left flags line) (concat (lines_left (flags_behind flags line more) more)) in
    let old : length (line ++ concat more) ≡ length line + length (concat more) = length-append line (concat more) in
    omega (arith, here, later, own, old)

pub blanked_short : (flags : List Bool) (text : List ℕ) → length (blanked flags text) ≤ length text
unfolding blanked
blanked_short flags text = subst (λ bytes. length (concat (lines_left flags (whole_lines text))) ≤ length bytes) (concat_whole text) (left_short flags (whole_lines text))

-- the text so far and what is left of the lines behind it
abbrev pub IsLeft : List Bool → List ℕ → List ℕ → List Bool → List ℕ → Type 0
IsLeft keep bytes made flags rest = made ++ concat (lines_left flags (whole_lines rest)) ≡ blanked keep bytes

pub left_first : (keep : List Bool) (bytes : List ℕ) → IsLeft keep bytes [] keep bytes
unfolding blanked
left_first keep bytes = refl

pub left_more : (keep : List Bool) (bytes made new : List ℕ) (flags others : List Bool) (rest line more : List ℕ) → whole_lines rest ≡ line ∷ whole_lines more → new ≡ made ++ line_left flags line
    → others ≡ flags_behind flags line (whole_lines more) → IsLeft keep bytes made flags rest → IsLeft keep bytes new others more
left_more keep bytes made new flags others old line more cut pushed passed left =
    ap (λ front. front ++ concat (lines_left others (whole_lines more))) pushed ∙ append_assoc made (line_left flags line) (concat (lines_left others (whole_lines more)))
    ∙ ap (λ fs. made ++ (line_left flags line ++ concat (lines_left fs (whole_lines more)))) passed ∙ ap (λ all. made ++ concat (lines_left flags all)) (sym cut) ∙ left

pub left_last : (keep : List Bool) (bytes made : List ℕ) (flags : List Bool) (rest : List ℕ) → length rest ≡ 0 → IsLeft keep bytes made flags rest → made ≡ blanked keep bytes
left_last keep bytes made flags (b ∷ rest) none left = absurd (omega (arith, none))
left_last keep bytes made flags [] none left = sym (append-nil made) ∙ left
