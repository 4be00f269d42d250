-- The words of a text, one after another.
use Rattle.std.proofs.Common.{◌≡◌, ℕ, ◌+◌, ◌<◌, suc, Bool, true, false, List, [], ◌∷◌, length, take, drop, filter, cond, eqb, ◌≤◌, Some, None, refl, ap, sym}
use Rattle.std.proofs.{Common.{◌∙◌, arith}, lemmas.Bool.{eqb-true, ltb-false}, lemmas.List.Sums.{prefix_len-le-length}}
use Rattle.std.specs.{Prelude.{nat_lt}, List.{slice_split, onto_first, position, position_or_len}}
use Rattle.stanza_reader.specs.Fields.{is_edge, trimmed_start}
use Rattle.status_check.specs.Installed.{has_byte, words}

trimmed_step : (b : ℕ) (bs : List ℕ) (t : Bool) → is_edge b ≡ t → words (trimmed_start bs) ≡ words bs → words (trimmed_start (b ∷ bs)) ≡ words (b ∷ bs)
unfolding words
trimmed_step b bs true edge later =
    let skipped : trimmed_start (b ∷ bs) ≡ trimmed_start bs = rw edge refl in
    let same : filter has_byte (slice_split is_edge (b ∷ bs)) ≡ filter has_byte (slice_split is_edge bs) = rw edge refl in
    ap (λ text. filter has_byte (slice_split is_edge text)) skipped ∙ later ∙ sym same
trimmed_step b bs false text later =
    let skipped : trimmed_start (b ∷ bs) ≡ b ∷ bs = rw text refl in
    ap (λ all. filter has_byte (slice_split is_edge all)) skipped

-- white space at the start is in no word
words_trimmed : (text : List ℕ) → words (trimmed_start text) ≡ words text
words_trimmed [] = refl
words_trimmed (b ∷ bs) = trimmed_step b bs (is_edge b) refl (words_trimmed bs)

-- and the first byte behind it is no white space
trimmed_text : (text : List ℕ) (b : ℕ) (bs : List ℕ) → trimmed_start text ≡ b ∷ bs → is_edge b ≡ false
trimmed_text [] b bs e = cc
trimmed_text (c ∷ cs) b bs e = go (trimmed_text cs b bs) (is_edge c) refl
  where
    go : (trimmed_start cs ≡ b ∷ bs → is_edge b ≡ false) → (t : Bool) → is_edge c ≡ t → is_edge b ≡ false
    go later true edge =
        let skipped : trimmed_start (c ∷ cs) ≡ trimmed_start cs = rw edge refl in later (sym skipped ∙ e)
    go later false text =
        let here : trimmed_start (c ∷ cs) ≡ c ∷ cs = rw text refl in
        let parts : c ∷ cs ≡ b ∷ bs = sym here ∙ e in
        let same : c ≡ b = cc in
        ap is_edge (sym same) ∙ text

-- the bytes before the first white space, which may be none, and the words behind them
record FirstPart (text : List ℕ) : Type 0 where
  rest : List (List ℕ)
  cut : slice_split is_edge text ≡ take (position_or_len is_edge text) text ∷ rest
  behind : filter has_byte rest ≡ words (drop (position_or_len is_edge text) text)

part_step : (b : ℕ) (bs : List ℕ) (t : Bool) → is_edge b ≡ t → FirstPart bs → FirstPart (b ∷ bs)
unfolding words
part_step b bs true edge later =
    let place : position_or_len is_edge (b ∷ bs) ≡ 0 = rw edge refl in
    let whole : slice_split is_edge (b ∷ bs) ≡ [] ∷ slice_split is_edge bs = rw edge refl in
    let same : filter has_byte (slice_split is_edge (b ∷ bs)) ≡ filter has_byte (slice_split is_edge bs) = rw edge refl in
    record {
      rest = slice_split is_edge bs;
      cut = whole ∙ ap (λ k. take k (b ∷ bs) ∷ slice_split is_edge bs) (sym place);
      behind = sym same ∙ ap (λ k. filter has_byte (slice_split is_edge (drop k (b ∷ bs)))) (sym place);
    }
part_step b bs false text later =
    let more : position_or_len is_edge (b ∷ bs) ≡ 1 + position_or_len is_edge bs = rw text refl in
    let place : position_or_len is_edge (b ∷ bs) ≡ suc (position_or_len is_edge bs) = omega (arith, more) in
    let whole : slice_split is_edge (b ∷ bs) ≡ onto_first b (slice_split is_edge bs) = rw text refl in
    record {
      rest = later.rest;
      cut = whole ∙ ap (onto_first b) later.cut ∙ ap (λ k. take k (b ∷ bs) ∷ later.rest) (sym place);
      behind = later.behind ∙ ap (λ k. filter has_byte (slice_split is_edge (drop k (b ∷ bs)))) (sym place);
    }

part_of : (text : List ℕ) → FirstPart text
unfolding words
part_of [] = record { rest = []; cut = refl; behind = refl }
part_of (b ∷ bs) = part_step b bs (is_edge b) refl (part_of bs)

filled_first : (b : ℕ) (bs : List ℕ) (k : ℕ) → is_edge b ≡ false → k ≡ position_or_len is_edge (b ∷ bs) → has_byte (take k (b ∷ bs)) ≡ true
filled_first b bs k text is =
    let more : position_or_len is_edge (b ∷ bs) ≡ 1 + position_or_len is_edge bs = rw text refl in
    let place : k ≡ suc (position_or_len is_edge bs) = omega (arith, is, more) in
    ap (λ n. has_byte (take n (b ∷ bs))) place

-- the first word, and those behind it
pub first_word : (text start : List ℕ) (n : ℕ) → start ≡ trimmed_start text → 0 < length start → n ≡ position_or_len is_edge start → words text ≡ take n start ∷ words (drop n start)
unfolding words
first_word text [] n is some place = absurd (omega arith)
first_word text (b ∷ bs) n is some place =
    let part = part_of (b ∷ bs) in
    let word : List ℕ = take (position_or_len is_edge (b ∷ bs)) (b ∷ bs) in
    let filled : has_byte word ≡ true = filled_first b bs (position_or_len is_edge (b ∷ bs)) (trimmed_text text b bs (sym is)) refl in
    let kept : filter has_byte (word ∷ part.rest) ≡ word ∷ filter has_byte part.rest = rw filled refl in
    sym (words_trimmed text) ∙ ap (λ all. filter has_byte (slice_split is_edge all)) (sym is) ∙ ap (filter has_byte) part.cut ∙ kept ∙ ap (λ rest. word ∷ rest) part.behind
    ∙ ap (λ k. take k (b ∷ bs) ∷ filter has_byte (slice_split is_edge (drop k (b ∷ bs)))) (sym place)

-- without white space the word is the whole text
pub white_none : (text : List ℕ) → position is_edge text ≡ None → length text ≡ position_or_len is_edge text
white_none text e = go (nat_lt (position_or_len is_edge text) (length text)) refl e
  where
    go : (b : Bool) → nat_lt (position_or_len is_edge text) (length text) ≡ b → cond b (Some (position_or_len is_edge text)) None ≡ None → length text ≡ position_or_len is_edge text
    go true less h = cc
    go false past h =
        let most = ltb-false (position_or_len is_edge text) (length text) past in
        let within : position_or_len is_edge text ≤ length text = prefix_len-le-length _ text in
        omega (arith, most, within)

-- a text of white space alone has none
pub no_word : (text start : List ℕ) → start ≡ trimmed_start text → start ≡ [] → words text ≡ []
unfolding words
no_word text start is none = sym (words_trimmed text) ∙ ap (λ all. filter has_byte (slice_split is_edge all)) (sym is ∙ none)
