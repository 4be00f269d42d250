-- for the bodies of this crate alone
-- Blank lines, seen from the end of a text.
use Rattle.std.specs.Prelude.{◌≡◌, ℕ, ◌+◌, ◌<◌, ◌≤◌, Bool, true, false, ◌&&◌, List, [], ◌∷◌}
use Rattle.std.specs.{Prelude.{reverse, slice_index_or}, List.{before_first}}
use Rattle.stanza_reader.specs.Lines.{is_line_feed, is_blank}

-- whether the last line of a text, which follows its last line feed, is blank
abbrev pub is_last_blank : List ℕ → Bool
is_last_blank text = is_blank (before_first is_line_feed (reverse text))

-- whether a text that is read from its end is empty, or has a line feed and a blank line before it
abbrev pub is_closing : List ℕ → Bool
is_closing [] = true
is_closing (b ∷ before) = is_line_feed b && is_blank (before_first is_line_feed before)

-- whether a text is empty or ends with a blank line and a line feed
abbrev pub closes : List ℕ → Bool
closes text = is_closing (reverse text)

-- no byte from one place to before another is a line feed
abbrev pub NoFeed : List ℕ → ℕ → ℕ → Type 0
NoFeed text from end = (k : ℕ) → from ≤ k → k < end → is_line_feed (slice_index_or text k 0) ≡ false

-- the place of the last line feed there
pub record IsLastFeed (text : List ℕ) (from end place : ℕ) : Type 0 where
  pub low : from ≤ place
  pub high : place < end
  pub feed : is_line_feed (slice_index_or text place 0) ≡ true
  pub last : NoFeed text (place + 1) end
