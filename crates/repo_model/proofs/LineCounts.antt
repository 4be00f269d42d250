-- The number of the line behind a text, by a place in it.
use Rattle.std.proofs.{Common.{◌≡◌, ℕ, ◌+◌, cond, List, take, drop, arith}, lemmas.List.Sums.{sum_by-take-drop}}
use Rattle.std.specs.Prelude.{count_by}
use Rattle.stanza_reader.proofs.PlaceLemmas.{feeds}
use Rattle.stanza_reader.specs.Lines.{is_line_feed}

pub line_onward : (text : List ℕ) (n first here last : ℕ) → here ≡ first + count_by is_line_feed (take n text) → last ≡ here + count_by is_line_feed (drop n text)
    → last ≡ first + count_by is_line_feed text
line_onward text n first here last before behind = let halves = feeds text n in omega (arith, before, behind, halves)
