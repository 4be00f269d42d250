-- Texts in which the lines of some stanzas are made empty, so that the other lines keep their
-- numbers.
use Rattle.std.specs.Prelude.{◌≡◌, ℕ, Bool, true, false, not, ◌&&◌, ◌||◌, if◌then◌else◌, List, []}
use Rattle.std.specs.Prelude.{◌∷◌, drop, length, Ok}
use Rattle.std.specs.List.{concat, list_all, list_any, onto_first}
use Rattle.stanza_reader.specs.{Fields.{is_edge}, Lines.{is_line_feed}, Stanzas.{stanzas}}
use Rattle.stanza_reader.specs.declared.stanza.RawStanza.{RawStanza}

-- the text cut after each line feed: its lines, each with its line feed, but for a last one that
-- has none
abbrev pub whole_lines : List ℕ → List (List ℕ)
whole_lines [] = []
whole_lines (b ∷ bs) =
    if is_line_feed b then (b ∷ []) ∷ whole_lines bs else onto_first b (whole_lines bs)

-- such a line with only spaces and tabs besides its line feed
abbrev pub is_blank_whole : List ℕ → Bool
is_blank_whole line = list_all is_edge line

-- there is no line, or the first one is blank
abbrev pub is_at_blank : List (List ℕ) → Bool
is_at_blank [] = true
is_at_blank (line ∷ more) = is_blank_whole line

-- a stanza ends with the line, if these lines follow it
abbrev pub ends_stanza : List ℕ → List (List ℕ) → Bool
ends_stanza line more = not (is_blank_whole line) && is_at_blank more

-- the first flag; if there is none, it is down
abbrev pub first_flag : List Bool → Bool
first_flag [] = false
first_flag (flag ∷ flags) = flag

-- what is left of a line that is made empty: its line feed, if it has one
abbrev pub emptied : List ℕ → List ℕ
emptied line = if list_any is_line_feed line then 10 ∷ [] else []

-- a blank line, and each line of a stanza whose flag is up, stays as it is
abbrev pub stays : List Bool → List ℕ → Bool
stays flags line = is_blank_whole line || first_flag flags

abbrev pub line_left : List Bool → List ℕ → List ℕ
line_left flags line = if stays flags line then line else emptied line

-- The flags after a line. There is a flag for each stanza, in their order; a line that ends a
-- stanza uses up the first flag.
abbrev pub flags_behind : List Bool → List ℕ → List (List ℕ) → List Bool
flags_behind flags line more = if ends_stanza line more then drop 1 flags else flags

abbrev pub lines_left : List Bool → List (List ℕ) → List (List ℕ)
lines_left flags [] = []
lines_left flags (line ∷ more) =
    line_left flags line ∷ lines_left (flags_behind flags line more) more

-- the text in which each line of each stanza whose flag is down is made empty
unfoldable pub blanked : List Bool → List ℕ → List ℕ
blanked flags text = concat (lines_left flags (whole_lines text))

-- the items whose flags are up
abbrev pub picked : {A : Type 0} → List Bool → List A → List A
picked [] items = []
picked (flag ∷ flags) [] = []
picked (flag ∷ flags) (item ∷ items) =
    if flag then item ∷ picked flags items else picked flags items

-- the lines of the text have no fault, and there is a flag for each stanza
pub record HasFlags (text : List ℕ) (flags : List Bool) : Type 0 where
  pub all : List RawStanza
  pub fine : stanzas text ≡ Ok all
  pub many : length flags ≡ length all

-- the stanzas of a text are those of another one whose flags are up, with the same line numbers
abbrev pub HasPicked : List ℕ → List Bool → List ℕ → Type 0
HasPicked text flags made = (all : List RawStanza) → stanzas text ≡ Ok all →
    stanzas made ≡ Ok (picked flags all)
