-- White space at the ends of texts.
use Rattle.std.specs.Prelude.{ℕ, ◌-◌, Bool, ◌||◌, ◌==◌, List, length, take, drop}
use Rattle.std.specs.List.{prefix_len, suffix_len}

-- a space, a tab or a line feed
abbrev pub is_white_byte : ℕ → Bool
is_white_byte c = c == 32 || (c == 9 || c == 10)

-- the text without the white space at its front, at its end, and at both
unfoldable pub trim_start : List ℕ → List ℕ
trim_start text = drop (prefix_len is_white_byte text) text

unfoldable pub trim_end : List ℕ → List ℕ
trim_end text = take (length text - suffix_len is_white_byte text) text

unfoldable pub trim_both : List ℕ → List ℕ
trim_both text = trim_end (trim_start text)
