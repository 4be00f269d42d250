-- A text whose first part is closed reads as its two parts, one after the other.
use Rattle.std.proofs.Common.{◌≡◌, ℕ, ◌+◌, suc, Bool, true, false, cond, List, [], ◌∷◌, ◌++◌, length, drop, Result, Ok, Err, map, refl, ap, sym, ◌∙◌, arith}
use Rattle.std.proofs.{lemmas.List.{append-nil, map-append}, lemmas.List.Elements.{filter-append}, lemmas.List.Sums.{sum_by-cons}}
use Rattle.std.specs.{Prelude.{filter, count_by}, List.{slice_split, onto_first, before_first, after_first}}
use Rattle.stanza_reader.specs.Lines.{Line, is_line_feed, is_blank, lines, numbered}
use Rattle.stanza_reader.specs.Stanzas.{groups, is_blank_line, has_line, stanza_of, readings, all_or_fault, with_first}
use Rattle.stanza_reader.specs.{Close.{is_ended, ends_blank, readings_from, followed_by, ReadsInParts, StanzasInParts, ClosedTextsJoin}, Reading.{readings_at}}
use Rattle.stanza_reader.specs.{declared.place.Place.{Place}, declared.stanza.RawStanza.{RawStanza}, declared.fault.StanzaFault.{StanzaFault}}
use Rattle.stanza_reader.proofs.LineLemmas.{lines_first}

-- a text with a byte has a first line
pub record HasFirst (all : List (List ℕ)) : Type 0 where
  pub first : List ℕ
  pub more : List (List ℕ)
  pub is : all ≡ first ∷ more

pub first_line : (b : ℕ) (bs : List ℕ) → HasFirst (lines (b ∷ bs))
first_line b bs = record { first = before_first is_line_feed (b ∷ bs); more = lines (after_first is_line_feed (b ∷ bs)); is = lines_first (b ∷ bs) (omega arith) }

onto_parts : (b : ℕ) (xs ys : List (List ℕ)) → HasFirst xs → onto_first b (xs ++ ys) ≡ onto_first b xs ++ ys
onto_parts b xs ys some = rw some.is refl

lines_step : (b : ℕ) (bs rest : List ℕ) (t : Bool) → is_line_feed b ≡ t → HasFirst (lines bs) → lines (bs ++ rest) ≡ lines bs ++ lines rest → lines (b ∷ (bs ++ rest)) ≡ lines (b ∷ bs) ++ lines rest
lines_step b bs rest true feed some later = rw (feed, later) refl
lines_step b bs rest false text some later =
    let whole : lines (b ∷ (bs ++ rest)) ≡ onto_first b (lines (bs ++ rest)) = rw text refl in
    let alone : lines (b ∷ bs) ≡ onto_first b (lines bs) = rw text refl in
    whole ∙ ap (onto_first b) later ∙ onto_parts b (lines bs) (lines rest) some ∙ ap (λ front. front ++ lines rest) (sym alone)

-- the lines of a text and those of another behind it, where each line of the first ends with a line feed
pub lines_parts : (front rest : List ℕ) → is_ended front ≡ true → lines (front ++ rest) ≡ lines front ++ lines rest
lines_parts [] rest h = refl
lines_parts (b ∷ []) rest h = let feed : is_line_feed b ≡ true = h in rw feed refl
lines_parts (b ∷ c ∷ more) rest h = lines_step b (c ∷ more) rest (is_line_feed b) refl (first_line c more) (lines_parts (c ∷ more) rest h)

numbered_parts : (n : ℕ) (xs ys : List (List ℕ)) → numbered n (xs ++ ys) ≡ numbered n xs ++ numbered (n + length xs) ys
numbered_parts n [] ys = let same : n ≡ n + 0 = omega arith in ap (λ m. numbered m ys) same
numbered_parts n (x ∷ xs) ys =
    let size : n + 1 + length xs ≡ n + length (x ∷ xs) = omega arith in
    ap (λ more. record { number = n; text = x } ∷ more) (rw size at (numbered_parts (n + 1) xs ys))

onto_length : (b : ℕ) (xs : List (List ℕ)) → HasFirst xs → length (onto_first b xs) ≡ length xs
onto_length b xs some = rw some.is refl

count_step : (b : ℕ) (bs : List ℕ) (t : Bool) → is_line_feed b ≡ t → HasFirst (lines bs) → length (lines bs) ≡ count_by is_line_feed bs → length (lines (b ∷ bs)) ≡ count_by is_line_feed (b ∷ bs)
count_step b bs true feed some later =
    let whole : count_by is_line_feed (b ∷ bs) ≡ 1 + count_by is_line_feed bs = sum_by-cons (λ y. cond (is_line_feed y) 1 0) b bs ∙ rw feed refl in
    let line : length (lines (b ∷ bs)) ≡ suc (length (lines bs)) = rw feed refl in
    omega (arith, whole, line, later)
count_step b bs false text some later =
    let whole : count_by is_line_feed (b ∷ bs) ≡ 0 + count_by is_line_feed bs = sum_by-cons (λ y. cond (is_line_feed y) 1 0) b bs ∙ rw text refl in
    let line : length (lines (b ∷ bs)) ≡ length (onto_first b (lines bs)) = rw text refl in
    omega (arith, whole, line ∙ onto_length b (lines bs) some, later)

-- as many lines as line feeds, where each line ends with one
pub lines_counted : (text : List ℕ) → is_ended text ≡ true → length (lines text) ≡ count_by is_line_feed text
lines_counted [] h = refl
lines_counted (b ∷ []) h = let feed : is_line_feed b ≡ true = h in rw (sum_by-cons (λ y. cond (is_line_feed y) 1 0) b [], feed) refl
lines_counted (b ∷ c ∷ more) h = count_step b (c ∷ more) (is_line_feed b) refl (first_line c more) (lines_counted (c ∷ more) h)

-- lines of which the last is blank, cut at the blank ones, with other lines behind them
record Cuts (all : List Line) : Type 0 where
  first : List Line
  others : List (List Line)
  split : (ys : List Line) → slice_split is_blank_line (all ++ ys) ≡ first ∷ (others ++ slice_split is_blank_line ys)

cuts_step : (line : Line) (more : List Line) (t : Bool) → is_blank line.text ≡ t → Cuts more → Cuts (line ∷ more)
cuts_step line more true blank later = record { first = []; others = later.first ∷ later.others; split = λ ys. rw (blank, later.split ys) refl }
cuts_step line more false full later = record { first = line ∷ later.first; others = later.others; split = λ ys. rw (full, later.split ys) refl }

cuts_of : (n : ℕ) (line : List ℕ) (more : List (List ℕ)) → ends_blank (line ∷ more) ≡ true → Cuts (numbered n (line ∷ more))
cuts_of n line [] h = let blank : is_blank line ≡ true = h in record { first = []; others = []; split = λ ys. rw blank refl }
cuts_of n line (next ∷ more) h = cuts_step record { number = n; text = line } (numbered (n + 1) (next ∷ more)) (is_blank line) refl (cuts_of (n + 1) next more h)

cut_groups : (all ys : List Line) → Cuts all → groups (all ++ ys) ≡ groups all ++ groups ys
unfolding groups
cut_groups all ys c =
    let alone : slice_split is_blank_line all ≡ (c.first ∷ c.others) ++ ([] ∷ []) = ap (slice_split is_blank_line) (sym (append-nil all)) ∙ c.split [] in
    let one : filter has_line (slice_split is_blank_line all) ≡ filter has_line (c.first ∷ c.others) =
    ap (filter has_line) alone ∙ filter-append has_line (c.first ∷ c.others) ([] ∷ []) ∙ append-nil (filter has_line (c.first ∷ c.others)) in
    ap (filter has_line) (c.split ys) ∙ filter-append has_line (c.first ∷ c.others) (slice_split is_blank_line ys) ∙ ap (λ front. front ++ filter has_line (slice_split is_blank_line ys)) (sym one)

-- the groups of lines of which the last is blank, and those of the lines behind them
groups_parts : (n : ℕ) (front : List (List ℕ)) (ys : List Line) → ends_blank front ≡ true → groups (numbered n front ++ ys) ≡ groups (numbered n front) ++ groups ys
unfolding groups
groups_parts n [] ys h = refl
groups_parts n (line ∷ more) ys h = cut_groups (numbered n (line ∷ more)) ys (cuts_of n line more h)

-- a closed text and another behind it
pub reads_in_parts : ReadsInParts
unfolding readings_from
reads_in_parts number front rest closed =
    let count : number + length (lines front) ≡ number + count_by is_line_feed front = ap (λ n. number + n) (lines_counted front closed.ended) in
    ap (λ all. map stanza_of (groups (numbered number all))) (lines_parts front rest closed.ended)
    ∙ ap (λ all. map stanza_of (groups all)) (numbered_parts number (lines front) (lines rest))
    ∙ ap (map stanza_of) (groups_parts number (lines front) (numbered (number + length (lines front)) (lines rest)) closed.blank)
    ∙ map-append stanza_of (groups (numbered number (lines front))) (groups (numbered (number + length (lines front)) (lines rest)))
    ∙ ap (λ n. map stanza_of (groups (numbered number (lines front))) ++ map stanza_of (groups (numbered n (lines rest)))) count

-- what is read from a place on is what the text from there on reads as, with the lines counted on from its number
pub readings_at-from : (bytes : List ℕ) (at : Place) → readings_at bytes at ≡ readings_from at.line (drop at.offset bytes)
unfolding readings_at readings_from
readings_at-from bytes at = refl

pub readings-from : (text : List ℕ) → readings text ≡ readings_from 1 text
unfolding readings readings_from
readings-from text = refl

first_before : (stanza : RawStanza) (front rest : Result (List RawStanza) StanzaFault) → with_first stanza (followed_by front rest) ≡ followed_by (with_first stanza front) rest
first_before stanza (Ok front) (Ok rest) = refl
first_before stanza (Ok front) (Err fault) = refl
first_before stanza (Err fault) rest = refl

after_none : (rest : Result (List RawStanza) StanzaFault) → rest ≡ followed_by (Ok []) rest
after_none (Ok rest) = refl
after_none (Err fault) = refl

all_parts : (front rest : List (Result RawStanza StanzaFault)) → all_or_fault (front ++ rest) ≡ followed_by (all_or_fault front) (all_or_fault rest)
all_parts [] rest = after_none (all_or_fault rest)
all_parts (Ok stanza ∷ more) rest = ap (with_first stanza) (all_parts more rest) ∙ first_before stanza (all_or_fault more) (all_or_fault rest)
all_parts (Err fault ∷ more) rest = refl

-- the stanzas, or the first fault, of a closed text and another behind it
pub stanzas_in_parts : StanzasInParts
stanzas_in_parts number front rest closed =
    ap all_or_fault (reads_in_parts number front rest closed) ∙ all_parts (readings_from number front) (readings_from (number + count_by is_line_feed front) rest)

-- the last byte of a text is that of what stands at its end
pub ended_last : (front : List ℕ) (b : ℕ) (bs : List ℕ) → is_ended (front ++ b ∷ bs) ≡ is_ended (b ∷ bs)
ended_last [] b bs = refl
ended_last (a ∷ []) b bs = refl
ended_last (a ∷ c ∷ more) b bs = ended_last (c ∷ more) b bs

ended_join : (front rest : List ℕ) → is_ended front ≡ true → is_ended rest ≡ true → is_ended (front ++ rest) ≡ true
ended_join front [] first second = rw (append-nil front) first
ended_join front (b ∷ bs) first second = ended_last front b bs ∙ second

-- the last line of lines is that of those at their end
pub blank_last : (front : List (List ℕ)) (line : List ℕ) (more : List (List ℕ)) → ends_blank (front ++ line ∷ more) ≡ ends_blank (line ∷ more)
blank_last [] line more = refl
blank_last (first ∷ []) line more = refl
blank_last (first ∷ next ∷ others) line more = blank_last (next ∷ others) line more

blank_join : (front rest : List (List ℕ)) → ends_blank front ≡ true → ends_blank rest ≡ true → ends_blank (front ++ rest) ≡ true
blank_join front [] first second = rw (append-nil front) first
blank_join front (line ∷ more) first second = blank_last front line more ∙ second

-- two closed texts are a closed text
pub closed_texts_join : ClosedTextsJoin
closed_texts_join front rest first second = record {
  ended = ended_join front rest first.ended second.ended;
  blank = rw (lines_parts front rest first.ended) (blank_join (lines front) (lines rest) first.blank second.blank);
}
