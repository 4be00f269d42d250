-- Fronts of a text after which no stanza goes on.
use Rattle.std.specs.Prelude.{◌≡◌, ℕ, ◌+◌, ◌≤◌, Bool, true, false, List, [], ◌∷◌, ◌++◌, Result, Ok}
use Rattle.std.specs.{Prelude.{Err, length, take, map, count_by}, List.{list_all, list_any}}
use Rattle.stanza_reader.specs.Lines.{is_line_feed, is_blank, lines, numbered}
use Rattle.stanza_reader.specs.Stanzas.{groups, stanza_of, all_or_fault}
use Rattle.stanza_reader.specs.declared.stanza.RawStanza.{RawStanza}
use Rattle.stanza_reader.specs.declared.fault.StanzaFault.{StanzaFault}

-- whether each line of a text ends with a line feed: the text is empty, or its last byte is one
abbrev pub is_ended : List ℕ → Bool
is_ended [] = true
is_ended (b ∷ []) = is_line_feed b
is_ended (b ∷ c ∷ more) = is_ended (c ∷ more)

-- The first n bytes are the front up to and with the first blank line that ends with a line feed
-- and follows a line that is not blank. So they are blank lines, at least one line that is not
-- blank, and one blank line.
pub record IsClosedFront (bytes : List ℕ) (n : ℕ) : Type 0 where
  pub within : n ≤ length bytes
  pub ended : is_ended (take n bytes) ≡ true
  pub blanks : List (List ℕ)
  pub first : List ℕ
  pub others : List (List ℕ)
  pub last : List ℕ
  pub cut : lines (take n bytes) ≡ blanks ++ ((first ∷ others) ++ last ∷ [])
  pub skipped : list_all is_blank blanks ≡ true
  pub full : list_any is_blank (first ∷ others) ≡ false
  pub blank : is_blank last ≡ true

-- whether there is no line, or the last one is blank
abbrev pub ends_blank : List (List ℕ) → Bool
ends_blank [] = true
ends_blank (line ∷ []) = is_blank line
ends_blank (line ∷ next ∷ more) = ends_blank (next ∷ more)

-- a text that is empty or ends with a blank line that ends with a line feed
pub record IsClosed (text : List ℕ) : Type 0 where
  pub ended : is_ended text ≡ true
  pub blank : ends_blank (lines text) ≡ true

-- what each group of lines of a text reads as, if its first line has this number
unfoldable pub readings_from : ℕ → List ℕ → List (Result RawStanza StanzaFault)
readings_from number text = map stanza_of (groups (numbered number (lines text)))

-- A text reads as its two parts, one after the other, if the first part is closed: the lines of the
-- second are counted on from those of the first.
abbrev pub ReadsInParts : Type 0
ReadsInParts = (number : ℕ) (front rest : List ℕ) → IsClosed front
    → readings_from number (front ++ rest) ≡ readings_from number front
    ++ readings_from (number + count_by is_line_feed front) rest

-- the stanzas of a text, or its first fault, if its first line has this number
abbrev pub stanzas_from : ℕ → List ℕ → Result (List RawStanza) StanzaFault
stanzas_from number text = all_or_fault (readings_from number text)

-- stanzas and then others, or the first fault
abbrev pub followed_by : Result (List RawStanza) StanzaFault → Result (List RawStanza) StanzaFault →
    Result (List RawStanza) StanzaFault
followed_by (Ok front) (Ok rest) = Ok (front ++ rest)
followed_by (Ok front) (Err fault) = Err fault
followed_by (Err fault) rest = Err fault

-- the stanzas of a text, or its first fault, are those of its two parts, if the first part is
-- closed
abbrev pub StanzasInParts : Type 0
StanzasInParts = (number : ℕ) (front rest : List ℕ) → IsClosed front
    → stanzas_from number (front ++ rest) ≡ followed_by (stanzas_from number front)
    (stanzas_from (number + count_by is_line_feed front) rest)

-- the closed front of a text is closed, and reads as one stanza or fault; two closed texts are a
-- closed text
abbrev pub ClosedFrontIsClosed : Type 0
ClosedFrontIsClosed = (bytes : List ℕ) (n : ℕ) → IsClosedFront bytes n → IsClosed (take n bytes)

abbrev pub ClosedFrontIsOne : Type 0
ClosedFrontIsOne = (number : ℕ) (bytes : List ℕ) (n : ℕ) → IsClosedFront bytes n →
    length (readings_from number (take n bytes)) ≡ 1

abbrev pub ClosedTextsJoin : Type 0
ClosedTextsJoin = (front rest : List ℕ) → IsClosed front → IsClosed rest → IsClosed (front ++ rest)
